use Rattle.std.proofs.Common.{◌≡◌, ◌+◌, ◌++◌, drop, arith, ◌≤◌, length, slice_index_or}
use Rattle.std.proofs.lemmas.List.{take_rest}
use Rattle.dns_record.specs.declared.part.Part.TheVariants.{Name}
use Rattle.dns_record.specs.Row.{lower_case_part}
use Rattle.dns_record.proofs.LowerCase.{next_has, next_within, lowered_more, lowered_end}
use Rattle.dns_record.proofs.lowering.lower_parts.Goals as goal
use Rattle.dns_record.proofs.lowering.lower_parts.Goals.{In_ok-place}

pub lower_part-requires : goal.lower_part-requires
lower_part-requires c = rw take_rest (drop (c.loop-part.part-index + 1) c.args.parts.now, next_has c.args.parts.now c.args.octets.now c.loop-part.part-index c.loop-part.place c.loop-part.out Name c.loop-part-test.true c.loop-part.invariant)

used : (c : In_ok-place) → c.in_ok-place.field-0 ≡ (lower_case_part (slice_index_or c.args.parts.now c.loop-part.part-index Name) (drop c.loop-part.place c.args.octets.now)).1
used c = rw take_rest at c.in_ok-place.ensures.used

written : (c : In_ok-place) → c.lower_part.new.out ≡ c.loop-part.out ++ (lower_case_part (slice_index_or c.args.parts.now c.loop-part.part-index Name) (drop c.loop-part.place c.args.octets.now)).0
written c = rw take_rest at c.in_ok-place.ensures.octets

pub overflow_add-place : goal.overflow_add-place
overflow_add-place c =
    let within : c.loop-part.place + c.in_ok-place.field-0 ≤ length c.args.octets.now =
    next_within c.args.parts.now c.args.octets.now c.loop-part.part-index c.loop-part.place c.in_ok-place.field-0 c.loop-part.out Name c.loop-part-test.true c.loop-part.invariant (used (goal.at.overflow_add-place c).In_ok-place) in
    omega (arith, c.well_formed)

pub loop-part-preserved : goal.loop-part-preserved
loop-part-preserved c =
    let at = (goal.at.loop-part-preserved c).In_ok-place in
    lowered_more c.args.parts.now c.args.octets.now c.loop-part.part-index c.loop-part.place c.in_ok-place.field-0 c.loop-part.out c.lower_part.new.out Name c.loop-part-test.true c.loop-part.invariant (used at) (written at)

pub returns : goal.returns
returns c = lowered_end c.args.parts.now c.args.octets.now c.loop-part.part-index c.loop-part.place c.loop-part.out c.loop-part-test.false c.loop-part.invariant
