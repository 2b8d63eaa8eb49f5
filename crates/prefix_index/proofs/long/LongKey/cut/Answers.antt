use Rattle.std.proofs.Common.{◌≡◌, ◌≤◌, ◌%◌, ◌-◌, ◌/◌, ◌^◌, true, sym, ap, ◌∙◌, subst, arith, eq-eqb}
use Rattle.std.proofs.lemmas.Nat.{pow_pos}
use Rattle.prefix_index.specs.Bits.{PlainBits, bits_valid}
use Rattle.prefix_index.specs.BitsLaws.{at_most}
use Rattle.prefix_index.proofs.Commons.{cut_clear, cut_agrees, valid_of}
use Rattle.prefix_index.proofs.long.LongKey.cut.Goals as goal

pub new-requires-clause-clear : goal.new-requires-clause-clear
new-requires-clause-clear c = ap (λ n. n % 2 ^ (128 - c.args.len)) c.cleared.ensures ∙ cut_clear c.number.result (2 ^ (128 - c.args.len)) (pow_pos (128 - c.args.len))

pub returns-clause-agree : goal.returns-clause-agree
returns-clause-agree c =
    let m = 2 ^ (128 - c.args.len) in
    eq-eqb _ _
    (ap (λ (a : PlainBits). a.number / m) c.new.ensures
    ∙ ap (λ n. n / m) c.cleared.ensures
    ∙ cut_agrees c.number.result m (pow_pos (128 - c.args.len))
    ∙ ap (λ n. n / m) c.number.ensures.number)

pub returns-clause-valid : goal.returns-clause-valid
returns-clause-valid c =
    let clear : c.cleared.result % 2 ^ (128 - c.args.len) ≡ 0 = ap (λ n. n % 2 ^ (128 - c.args.len)) c.cleared.ensures ∙ cut_clear c.number.result (2 ^ (128 - c.args.len)) (pow_pos (128 - c.args.len)) in
    let wide : c.args.self.now.len ≤ 128 = at_most 128 c.args.self.now c.number.ensures.valid in
    subst (λ (a : PlainBits). bits_valid 128 a ≡ true) (sym c.new.ensures) (valid_of 128 (record { number = c.cleared.result; len = c.args.len }) clear (omega (arith, c.requires.within, wide)))
