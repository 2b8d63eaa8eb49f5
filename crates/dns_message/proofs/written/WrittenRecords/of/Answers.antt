use Rattle.std.proofs.Common.{◌≡◌, take, sym, subst, ◌∙◌}
use Rattle.std.proofs.lemmas.List.{take_all}
use Rattle.dns_message.specs.Alike.{AreAlike}
use Rattle.dns_message.specs.Written.{records_in}
use Rattle.dns_message.proofs.InPlace.{written_are, written_so}
use Rattle.dns_message.proofs.written.WrittenRecords.of.Goals as goal

pub invariant_of-result : goal.invariant_of-result
invariant_of-result c =
    let these : records_in c.loop-rr.octets c.loop-rr.spans.items ≡ c.args.records.now =
    written_are c.loop-rr.octets c.loop-rr.spans.items (take c.loop-rr.rr-index c.args.records.now) (record { are_records = c.loop-rr.invariant.2; octets_are = c.loop-rr.invariant.0; spans_are = c.loop-rr.invariant.1 })
    ∙ take_all c.loop-rr.rr-index c.args.records.now c.loop-rr-test.false
    in
    (written_so _ _ (take c.loop-rr.rr-index c.args.records.now) c.loop-rr.invariant.2 c.loop-rr.invariant.0 c.loop-rr.invariant.1, λ alike. subst AreAlike (sym these) (c.are_alike.ensures alike))

pub returns : goal.returns
returns c =
    written_are c.loop-rr.octets c.loop-rr.spans.items (take c.loop-rr.rr-index c.args.records.now) (record { are_records = c.loop-rr.invariant.2; octets_are = c.loop-rr.invariant.0; spans_are = c.loop-rr.invariant.1 })
    ∙ take_all c.loop-rr.rr-index c.args.records.now c.loop-rr-test.false
