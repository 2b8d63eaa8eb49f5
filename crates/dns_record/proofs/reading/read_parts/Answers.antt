use Rattle.std.proofs.Common.{refl, ◌∙◌}
use Rattle.std.proofs.lemmas.Result.{err_from_is_err_and}
use Rattle.dns_record.proofs.Parts.{with_octets-nil, part_more, part_fails, parts_end}
use Rattle.dns_record.proofs.reading.read_parts.Goals as goal

pub loop-part-init : goal.loop-part-init
loop-part-init c = (refl, rw c.new-rdata.ensures (with_octets-nil _))

pub loop-part-preserved : goal.loop-part-preserved
loop-part-preserved c =
    let adds = rw c.loop-part.invariant.0 at c.in_ok-place.ensures.adds in
    (c.in_ok-place.ensures.same ∙ c.loop-part.invariant.0, part_more c.args.parts.now c.loop-part.part-index _ c.args.names.now _ _ _ _ _ c.loop-part-test.true adds c.loop-part.invariant.1)

pub returns-in_err-place-clause-read : goal.returns-in_err-place-clause-read
returns-in_err-place-clause-read c =
    let p = err_from_is_err_and c.from_residual.result c.from_residual.ensures.1 in
    let adds = rw c.loop-part.invariant.0 at c.in_err-place.ensures.adds in
    rw (p.1, p.2) (part_fails c.in_err-place.field-0.0 c.args.parts.now c.loop-part.part-index _ c.args.names.now c.loop-part.rdata c.loop-part.place _ c.loop-part-test.true adds c.loop-part.invariant.1)

pub returns-clause-read : goal.returns-clause-read
returns-clause-read c = parts_end c.args.parts.now c.loop-part.part-index c.args.names.now _ _ _ c.loop-part-test.false c.loop-part.invariant.1
