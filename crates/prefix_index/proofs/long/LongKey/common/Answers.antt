use Rattle.std.proofs.Common.{◌≤◌, ◌/◌, ◌%◌, ◌-◌, ◌^◌, sym, ap, ◌∙◌, arith, eq-eqb, bit_xor}
use Rattle.std.specs.Int.Count.{count_leading_zeros}
use Rattle.prefix_index.specs.BitsLaws.{at_most}
use Rattle.prefix_index.proofs.Commons.{agree_of, differ_of}
use Rattle.prefix_index.proofs.long.LongKey.common.Goals as goal

pub returns-clause-agree : goal.returns-clause-agree
returns-clause-agree c =
    let x = c.number.result in
    let y = c.number-2.result in
    let r = c.min-2.result in
    let le : r ≤ count_leading_zeros 128 (bit_xor x y) = omega (arith, c.min.ensures, c.min-2.ensures) in
    eq-eqb _ _
    (ap (λ n. n / 2 ^ (128 - r)) (sym c.number.ensures.number)
    ∙ agree_of 128 r x y (omega (arith, c.number.type_inv)) (omega (arith, c.number-2.type_inv)) le
    ∙ ap (λ n. n / 2 ^ (128 - r)) c.number-2.ensures.number)

pub returns-clause-differ : goal.returns-clause-differ
returns-clause-differ c =
    let x = c.number.result in
    let y = c.number-2.result in
    let r = c.min-2.result in
    let wide : c.args.self.now.len ≤ 128 = at_most 128 c.args.self.now c.number.ensures.valid in
    λ in_a in_b same.
    differ_of 128 r x y (omega (arith, c.number.type_inv)) (omega (arith, c.number-2.type_inv)) (omega (arith, c.min.ensures, c.min-2.ensures, c.len.ensures, c.len-2.ensures, in_a, in_b)) (omega (arith, in_a, wide))
    (ap (λ n. n / 2 ^ (128 - 1 - r) % 2) c.number.ensures.number ∙ same ∙ ap (λ n. n / 2 ^ (128 - 1 - r) % 2) (sym c.number-2.ensures.number))
