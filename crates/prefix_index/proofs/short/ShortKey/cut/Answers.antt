use Rattle.std.proofs.Common.{◌≡◌, ◌≤◌, ◌%◌, ◌-◌, ◌/◌, ◌^◌, ap, ◌∙◌, arith, eq-eqb}
use Rattle.std.proofs.lemmas.Nat.{pow_pos}
use Rattle.prefix_index.specs.Bits.{PlainBits}
use Rattle.prefix_index.specs.BitsLaws.{at_most}
use Rattle.prefix_index.proofs.Commons.{cut_clear, cut_agrees, valid_of}
use Rattle.prefix_index.proofs.short.ShortKey.cut.Goals as goal

pub invariant_of-result : goal.invariant_of-result
invariant_of-result c =
    let all : c.self.inside.bits ≤ 32 = at_most 32 (record { number = c.self.inside.number; len = c.self.inside.bits }) c.self.invariant in
    let len : c.self.inside.bits ≡ c.args.self.now.len = ap (λ (a : PlainBits). a.len) c.self.view_is in
    let clear : c.cleared.result % 2 ^ (32 - c.args.len) ≡ 0 = ap (λ n. n % 2 ^ (32 - c.args.len)) c.cleared.ensures ∙ cut_clear c.self.inside.number (2 ^ (32 - c.args.len)) (pow_pos (32 - c.args.len)) in
    valid_of 32 (record { number = c.cleared.result; len = c.args.len }) clear (omega (arith, c.requires.within))

pub returns-clause-agree : goal.returns-clause-agree
returns-clause-agree c =
    let m = 2 ^ (32 - c.args.len) in
    let number : c.self.inside.number ≡ c.args.self.now.number = ap (λ (a : PlainBits). a.number) c.self.view_is in
    eq-eqb _ _ (ap (λ n. n / m) c.cleared.ensures ∙ cut_agrees c.self.inside.number m (pow_pos (32 - c.args.len)) ∙ ap (λ n. n / m) number)

pub returns-clause-valid : goal.returns-clause-valid
returns-clause-valid c =
    let all : c.self.inside.bits ≤ 32 = at_most 32 (record { number = c.self.inside.number; len = c.self.inside.bits }) c.self.invariant in
    let len : c.self.inside.bits ≡ c.args.self.now.len = ap (λ (a : PlainBits). a.len) c.self.view_is in
    let clear : c.cleared.result % 2 ^ (32 - c.args.len) ≡ 0 = ap (λ n. n % 2 ^ (32 - c.args.len)) c.cleared.ensures ∙ cut_clear c.self.inside.number (2 ^ (32 - c.args.len)) (pow_pos (32 - c.args.len)) in
    valid_of 32 (record { number = c.cleared.result; len = c.args.len }) clear (omega (arith, c.requires.within))
