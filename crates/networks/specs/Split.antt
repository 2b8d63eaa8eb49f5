-- Texts, cut at the first of some byte: what this is in the words of the definitions.
use Rattle.std.specs.Prelude.{◌≡◌, ℕ, ◌==◌, ◌<◌, true, false, List, [], ◌∷◌, length}
use Rattle.std.specs.List.{after_first, before_first, list_any, slice_split}

-- there is no such byte
pub record IsUncut (byte : ℕ) (text : List ℕ) : Type 0 where
  pub none : list_any (λ b. b == byte) text ≡ false
  pub before_is : text ≡ before_first (λ b. b == byte) text
  pub behind_is : [] ≡ after_first (λ b. b == byte) text
  pub fields : slice_split (λ b. b == byte) text ≡ text ∷ []

-- what stands before the first of them, and behind it
pub record IsCut (byte : ℕ) (text before behind : List ℕ) : Type 0 where
  pub some : list_any (λ b. b == byte) text ≡ true
  pub before_is : before ≡ before_first (λ b. b == byte) text
  pub behind_is : behind ≡ after_first (λ b. b == byte) text
  pub fields : slice_split (λ b. b == byte) text ≡ before ∷ slice_split (λ b. b == byte) behind
  pub shorter : length behind < length text
