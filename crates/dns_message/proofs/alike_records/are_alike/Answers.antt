use Rattle.std.proofs.Common.{subst}
use Rattle.std.proofs.lemmas.List.{take_all}
use Rattle.std.specs.List.{AllByRecursion}
use Rattle.dns_message.specs.Alike.{IsAlike}
use Rattle.dns_message.proofs.alike_records.are_alike.Goals as goal

pub returns : goal.returns
returns c alike = record {
  owner = c.in-Some.first.now.owner;
  are = subst (AllByRecursion (IsAlike c.in-Some.first.now.owner)) (take_all c.loop-rr.rr-index c.args.records.now c.loop-rr-test.false) c.loop-rr.invariant;
}
