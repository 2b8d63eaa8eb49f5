use Rattle.std.proofs.Common.{◌<◌, ◌+◌, ◌*◌, ◌^◌, arith}
use Rattle.std.proofs.lemmas.Int.Digits.{digits_value_more}
use Rattle.networks.proofs.HexLemmas.{one_digit_more, four_digits_fit}
use Rattle.networks.proofs.hexadecimal.value.Goals as goal
use Rattle.networks.proofs.hexadecimal.value.Goals.{After-digit_of}

pub overflow_mul-value : goal.overflow_mul-value
overflow_mul-value c =
    let more : c.loop-digit.value * 16 + 0 < 64 ^ (c.loop-digit.digit-index + 1) = one_digit_more c.loop-digit.value 0 c.loop-digit.digit-index c.loop-digit.invariant.below (omega arith) (omega arith) in
    omega (arith, four_digits_fit (c.loop-digit.value * 16 + 0) (c.loop-digit.digit-index + 1) more (omega arith))

more : (c : After-digit_of) → c.loop-digit.value * 16 + c.digit_of.result < 64 ^ (c.loop-digit.digit-index + 1)
more c = one_digit_more c.loop-digit.value c.digit_of.result c.loop-digit.digit-index c.loop-digit.invariant.below c.digit_of.ensures.below (omega arith)

pub overflow_add-value : goal.overflow_add-value
overflow_add-value c = omega (arith, four_digits_fit (c.loop-digit.value * 16 + c.digit_of.result) (c.loop-digit.digit-index + 1) (more c) (omega arith))

pub loop-digit-preserved : goal.loop-digit-preserved
loop-digit-preserved c = record {
  so_far = let e = digits_value_more 16 c.args.digits.now c.loop-digit.digit-index c.loop-digit-test.true in cc;
  below = more c;
}
