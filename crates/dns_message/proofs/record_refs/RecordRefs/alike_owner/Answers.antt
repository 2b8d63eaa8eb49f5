use Rattle.std.proofs.Common.{subst}
use Rattle.std.specs.List.{AllByRecursion}
use Rattle.dns_name.specs.Wire.{labels_in}
use Rattle.dns_message.specs.Alike.{IsAlike}
use Rattle.dns_message.proofs.AlikeLemmas.{owner_of_all}
use Rattle.dns_message.proofs.InPlace.{first_at}
use Rattle.dns_message.proofs.record_refs.RecordRefs.alike_owner.Goals as goal

pub first_owner-requires : goal.first_owner-requires
first_owner-requires c = (first_at c.self.inside.octets.now c.self.inside.spans.now c.in_ok-span.span.now c.in_ok-span._others.now c.in_ok-span.ensures.cases.0 c.self.invariant.0).begins

pub returns-clause-alike : goal.returns-clause-alike
returns-clause-alike c =
    subst (AllByRecursion (IsAlike (labels_in c.first_owner.result.now))) c.self.view_is
    (owner_of_all c.self.inside.octets.now c.self.inside.spans.now c.in_ok-span.span.now c.in_ok-span._others.now c.first_owner.result.now c.in_ok-span.ensures.cases.0 c.first_owner.ensures.owner (c.self.invariant.1 c.if-not-self.false))
