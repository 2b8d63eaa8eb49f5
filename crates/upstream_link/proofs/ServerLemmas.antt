-- The names above a name.
use Rattle.std.proofs.Common.{◌≡◌, ℕ, ◌+◌, ◌≤◌, List, [], ◌∷◌, ◌++◌, length, refl, sym, ap, ◌∙◌, arith}
use Rattle.std.proofs.lemmas.List.{append-nil}
use Rattle.upstream_link.specs.Servers.{longest_first}

none_left : (name : List (List ℕ)) → length name ≤ 1 → longest_first name ≡ []
none_left [] le = refl
none_left (label ∷ []) le = refl
none_left (label ∷ next ∷ labels) le = absurd (omega arith)

-- the loop has come to a name of one label or none
pub all_above : (name current : List (List ℕ)) (names : List (List (List ℕ))) (place count : ℕ) → length current + place ≡ length name + 1 → count ≡ length name → count ≤ place → longest_first name ≡ names ++ longest_first current → names ≡ longest_first name
all_above name current names place count sum is le before =
    let short : length current ≤ 1 = omega arith in
    sym (before ∙ ap (λ (more : List (List (List ℕ))). names ++ more) (none_left current short) ∙ append-nil names)
