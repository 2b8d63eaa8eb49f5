use Rattle.std.proofs.Common.{◌≡◌, ◌<◌, ◌≤◌, ◌^◌, true, subst, arith, eq-eqb, bit_xor}
use Rattle.std.specs.Int.Count.{count_leading_zeros}
use Rattle.prefix_index.specs.Bits.{PlainBits, bits_agree, bit_at_place}
use Rattle.prefix_index.specs.BitsLaws.{at_most}
use Rattle.prefix_index.proofs.Commons.{agree_of, differ_of}
use Rattle.prefix_index.proofs.short.ShortKey.common.Goals as goal

pub returns-clause-agree : goal.returns-clause-agree
returns-clause-agree c =
    let x = c.self.inside.number in
    let y = c.other.inside.number in
    let p : x < 2 ^ 32 = omega arith in
    let q : y < 2 ^ 32 = omega arith in
    let le : c.min-2.result ≤ count_leading_zeros 32 (bit_xor x y) = omega (arith, c.min.ensures, c.min-2.ensures) in
    subst (λ (a : PlainBits). bits_agree 32 c.min-2.result a c.args.other.now ≡ true) c.self.view_is
    (subst (λ (b : PlainBits). bits_agree 32 c.min-2.result (record { number = x; len = c.self.inside.bits }) b ≡ true) c.other.view_is
    (eq-eqb _ _ (agree_of 32 c.min-2.result x y p q le)))

pub returns-clause-differ : goal.returns-clause-differ
returns-clause-differ c =
    let x = c.self.inside.number in
    let y = c.other.inside.number in
    let p : x < 2 ^ 32 = omega arith in
    let q : y < 2 ^ 32 = omega arith in
    let a : PlainBits = record { number = x; len = c.self.inside.bits } in
    let b : PlainBits = record { number = y; len = c.other.inside.bits } in
    let width : c.self.inside.bits ≤ 32 = at_most 32 a c.self.invariant in
    subst (λ (a : PlainBits). c.min-2.result < a.len → c.min-2.result < c.args.other.now.len → bit_at_place 32 a c.min-2.result ≡ bit_at_place 32 c.args.other.now c.min-2.result → ⊥) c.self.view_is
    (subst (λ (b : PlainBits). c.min-2.result < c.self.inside.bits → c.min-2.result < b.len → bit_at_place 32 a c.min-2.result ≡ bit_at_place 32 b c.min-2.result → ⊥) c.other.view_is
    (λ in_a in_b same. differ_of 32 c.min-2.result x y p q (omega (arith, c.min.ensures, c.min-2.ensures)) (omega arith) same))
