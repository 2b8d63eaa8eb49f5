-- Where a search of names in order ends.
use Rattle.std.proofs.Common.{◌≡◌, ℕ, ◌+◌, ◌<◌, ◌≤◌, Bool, true, false, List, [], ◌∷◌, length, get_or, map, reverse, ◌⊎◌, inl, inr, Result, Ok, Err, is_ok, refl, sym, ap, ◌∙◌, true≢false, arith}
use Rattle.std.proofs.lemmas.Bool.{cases_lt}
use Rattle.std.proofs.lemmas.List.Folds.{list_any_at, list_any_none}
use Rattle.std.proofs.lemmas.List.Sorted.{searchable_from_sorted}
use Rattle.std.proofs.lemmas.Map.Keys.{Less-from_sorted}
use Rattle.std.specs.Char.{to_ascii_lowercase}
use Rattle.std.specs.Cmp.{tied_itself}
use Rattle.std.specs.Cmp.Lexicographic.{slice_cmp, nat_list_cmp_total}
use Rattle.std.specs.List.Sorted.{IsBinarySearchResult, IsSearchInRange, IsSortedBy, IsStrictlySortedBy}
use Rattle.std.specs.Ordering.{nat_cmp, ordering_then, ordering_reverse, is_eq, is_lt}
use Rattle.std.specs.declared.cmp.Ordering.{Ordering}
use Rattle.std.specs.declared.cmp.Ordering.TheVariants.{Less, Equal, Greater}
use Rattle.dns_name.specs.Alike.{same_name}
use Rattle.dns_name.specs.Labels.{lowered}
use Rattle.dns_name.specs.Order.{label_order, canonical_order}
use Rattle.upstream_link.specs.Chain.{has_name}
use Rattle.upstream_link.proofs.Found.{Name, alike, alike_if}
use Rattle.dns_name.proofs.Orders.{alike_from_equal, canonical_total, lowered-reverse}

-- ---- names that are alike are equal in the order

then_equal : (r s : Ordering) → r ≡ Equal → s ≡ Equal → ordering_then r s ≡ Equal
then_equal r s e f = rw e f

tied_labels : (a b : List ℕ) → map to_ascii_lowercase a ≡ map to_ascii_lowercase b → label_order a b ≡ Equal
tied_labels a b e = ap (λ (l : List ℕ). slice_cmp nat_cmp l (map to_ascii_lowercase b)) e ∙ tied_itself nat_list_cmp_total (map to_ascii_lowercase b)

tied_by : (a b : Name) → lowered a ≡ lowered b → slice_cmp label_order a b ≡ Equal
tied_by [] [] e = refl
tied_by [] (y ∷ b) e = absurd cc
tied_by (x ∷ a) [] e = absurd cc
tied_by (x ∷ a) (y ∷ b) e =
    let first : map to_ascii_lowercase x ≡ map to_ascii_lowercase y = cc e in
    let rest : lowered a ≡ lowered b = cc e in
    then_equal (label_order x y) (slice_cmp label_order a b) (tied_labels x y first) (tied_by a b rest)

pub equal_from_alike : (a b : Name) → lowered a ≡ lowered b → canonical_order a b ≡ Equal
equal_from_alike a b e = tied_by (reverse a) (reverse b) (lowered-reverse a ∙ ap (λ (l : Name). reverse l) e ∙ sym (lowered-reverse b))

-- ---- what is less or greater is another name

differs_by : (b : Bool) (name other : Name) → same_name name other ≡ b → is_eq (canonical_order other name) ≡ false → b ≡ false
differs_by true name other e apart = absurd (true≢false (sym (ap is_eq (equal_from_alike other name (sym (alike name other e)))) ∙ apart))
differs_by false name other e apart = refl

differs : (name other : Name) → is_eq (canonical_order other name) ≡ false → same_name name other ≡ false
differs name other apart = differs_by (same_name name other) name other refl apart

either_side : (name : Name) (k i : ℕ) (other : Name) → (k < i) ⊎ (i ≤ k) → (k < i → canonical_order other name ≡ Less) → (i ≤ k → canonical_order other name ≡ Greater) → same_name name other ≡ false
either_side name k i other (inl lt) low high = differs name other (ap is_eq (low lt))
either_side name k i other (inr le) low high = differs name other (ap is_eq (high le))

rising : (names : List Name) → IsStrictlySortedBy canonical_order names → IsSortedBy (λ a b. is_lt (canonical_order a b)) names
rising names s k d z lt =
    ap is_lt (canonical_total.antisymm (get_or names (k + 1) d) (get_or names k d) ∙ ap ordering_reverse (Less-from_sorted canonical_order names k (k + 1) d s (omega arith) lt))

pub search_tells : (names : List Name) (name : Name) (r : Result ℕ ℕ) → IsStrictlySortedBy canonical_order names → IsSearchInRange r (length names) → IsBinarySearchResult (λ y. canonical_order y name) names r → is_ok r ≡ has_name names name
search_tells names name (Ok i) s lt at =
    sym (list_any_at (same_name name) names i name lt (alike_if name (get_or names i name) (sym (alike_from_equal (get_or names i name) name (at name)))))
search_tells names name (Err i) s le at =
    let point = at (searchable_from_sorted canonical_total (λ (y : Name). y) names name (rising names s)) in
    sym (list_any_none (same_name name) names (λ k d lt. either_side name k i (get_or names k d) (cases_lt k i) (λ l. point.0 k d (omega arith) l) (λ g. point.1 k d g lt)))
