-- The last facts, taken back.
use Rattle.std.proofs.Common.{◌≡◌, ℕ, ◌+◌, List, [], ◌∷◌, ◌++◌, length, take, sym, ap, ◌∙◌}
use Rattle.std.proofs.lemmas.List.{same_from_push}
use Rattle.std.proofs.Math.Seq.{take-append-add}

module _ {X : Type 0} where
  -- the first ones, and one more
  taken_to : (old before after : List X) (x : X) (count : ℕ) → old ≡ before ++ x ∷ after → length before ≡ count → take (count + 1) old ≡ before ++ x ∷ []
  taken_to old before after x count is long =
      ap (take (count + 1)) is
      ∙ ap (λ (n : ℕ). take (n + 1) (before ++ x ∷ after)) (sym long)
      ∙ take-append-add before (x ∷ after) 1

  -- what is taken, and what is left
  pub last_left : (old shorter left before after : List X) (x y : X) (count : ℕ) → old ≡ before ++ x ∷ after → length before ≡ count → shorter ≡ take (count + 1) old
      → shorter ≡ left ++ y ∷ [] → (left ≡ before) × (y ≡ x)
  last_left old shorter left before after x y count is long cut parts =
      same_from_push left before y x (sym parts ∙ cut ∙ taken_to old before after x count is long)
