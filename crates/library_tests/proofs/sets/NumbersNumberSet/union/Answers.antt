use Rattle.std.proofs.Common.{◌≡◌, ◌==◌, ℕ, zero, suc, ◌<◌, ◌||◌, max, refl, ap, ◌∙◌, arith}
use Rattle.std.proofs.lemmas.Nat.Bits.{bit_at_or, bit_at-lt}
use Rattle.library_tests.proofs.sets.NumbersNumberSet.union.Goals as goal

-- the greater of two bits is 1 where one of them is
either_bit : (x y : ℕ) → x < 2 → y < 2 → (max x y == 1) ≡ ((x == 1) || (y == 1))
either_bit zero zero a b = refl
either_bit zero (suc zero) a b = refl
either_bit (suc zero) zero a b = refl
either_bit (suc zero) (suc zero) a b = refl
either_bit (suc (suc x)) y a b = absurd (omega (arith, a))
either_bit x (suc (suc y)) a b = absurd (omega (arith, b))

pub returns : goal.returns
returns c = λ number. ap (λ bit. bit == 1) (bit_at_or c.args.self.0 c.args.other.0 number) ∙ either_bit _ _ (bit_at-lt c.args.self.0 number) (bit_at-lt c.args.other.0 number)
