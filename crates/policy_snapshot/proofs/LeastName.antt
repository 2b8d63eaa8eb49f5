-- A list of names has one that comes first in canonical order, unless it is empty.
use Rattle.std.proofs.Common.{◌≡◌, ℕ, Bool, true, false, List, [], ◌∷◌, None, map, reverse, refl, sym, ap, ◌∙◌, true≢false}
use Rattle.std.proofs.lemmas.Bool.{not-true, not_from_false}
use Rattle.std.specs.Char.{to_ascii_lowercase}
use Rattle.std.specs.Cmp.{IsTotalOrder, on_total, tied_itself}
use Rattle.std.specs.Cmp.Lexicographic.{lists_total, nat_list_cmp_total}
use Rattle.std.specs.List.{Contains}
use Rattle.std.specs.Ordering.{is_lt}
use Rattle.std.specs.Prelude.{not}
use Rattle.std.specs.declared.cmp.Ordering.{Ordering}
use Rattle.std.specs.declared.cmp.Ordering.TheVariants.{Less, Equal, Greater}
use Rattle.dns_name.specs.Order.{label_order, canonical_order}
use Rattle.policy_snapshot.specs.Next.{is_least, least_name}
use Rattle.policy_snapshot.proofs.Members.{here, there}
use Rattle.policy_snapshot.proofs.ListTests.{both, all_if, all_at, none_passes}

-- ---- the canonical order

label_total : IsTotalOrder label_order
label_total = on_total (λ (label : List ℕ). map to_ascii_lowercase label) nat_list_cmp_total

pub canonical_total : IsTotalOrder canonical_order
canonical_total = on_total (λ (name : List (List ℕ)). reverse name) (lists_total label_total)

abbrev pub is_before : List (List ℕ) → List (List ℕ) → Bool
is_before a b = is_lt (canonical_order a b)

less_if : (o : Ordering) → is_lt o ≡ true → o ≡ Less
less_if Less h = refl
less_if Equal h = absurd (true≢false (sym h))
less_if Greater h = absurd (true≢false (sym h))

pub transitive : (a b c : List (List ℕ)) → is_before a b ≡ true → is_before b c ≡ true → is_before a c ≡ true
transitive a b c h k = ap is_lt (canonical_total.trans a b c (less_if (canonical_order a b) h) (less_if (canonical_order b c) k))

pub not_itself : (a : List (List ℕ)) → is_before a a ≡ false
not_itself a = ap is_lt (tied_itself canonical_total a)

-- ---- the least of a list

record HasLeast (names : List (List (List ℕ))) : Type 0 where
  name : List (List ℕ)
  within : Contains names name
  least : is_least names name ≡ true

-- what doesn't come before a name doesn't come before one that does
behind_before : (a b other : List (List ℕ)) → is_before a b ≡ true → not (is_before other b) ≡ true → not (is_before other a) ≡ true
behind_before a b other before behind = by_test (is_before other a) refl
  where
    by_test : (t : Bool) → is_before other a ≡ t → not t ≡ true
    by_test true h = absurd (true≢false (sym (transitive other a b h before) ∙ not-true (is_before other b) behind))
    by_test false h = refl

one_more : (x : List (List ℕ)) (xs : List (List (List ℕ))) (so : HasLeast xs) (before : Bool) → is_before x so.name ≡ before → HasLeast (x ∷ xs)
one_more x xs so true is = record {
  name = x;
  within = here x xs;
  least = both (not (is_before x x)) (is_least xs x) (not_from_false (is_before x x) (not_itself x))
      (all_if (λ other. not (is_before other x)) xs (λ other at. behind_before x so.name other is (all_at (λ o. not (is_before o so.name)) xs other so.least at)));
}
one_more x xs so false is = record {
  name = so.name;
  within = there x xs so.name so.within;
  least = both (not (is_before x so.name)) (is_least xs so.name) (not_from_false (is_before x so.name) is) so.least;
}

has_least : (x : List (List ℕ)) (xs : List (List (List ℕ))) → HasLeast (x ∷ xs)
has_least x [] = record { name = x; within = here x []; least = both (not (is_before x x)) true (not_from_false (is_before x x) (not_itself x)) refl }
has_least x (y ∷ ys) = let so = has_least y ys in one_more x (y ∷ ys) so (is_before x so.name) refl

-- a list without a least name is empty
pub no_least : (names : List (List (List ℕ))) → least_name names ≡ None → names ≡ []
no_least [] e = refl
no_least (x ∷ xs) e =
    let so = has_least x xs in
    absurd (true≢false (sym so.least ∙ none_passes (is_least (x ∷ xs)) (x ∷ xs) so.name e so.within))
