-- What follows for look-ups from what a summary knows of the rules of one zone.
use Rattle.std.proofs.Common.{◌≡◌, ℕ, ◌-◌, ◌==◌, Bool, true, false, cond, ◌||◌, ◌&&◌, List, [], ◌∷◌, ◌++◌, Some, is_some, refl, sym, ap, subst, ◌∙◌, true≢false, append_assoc}
use Rattle.std.specs.BTreeMap.{is_at}
use Rattle.std.specs.Cmp.{IsTotalOrder, tied_itself}
use Rattle.std.specs.List.{AllByRecursion, list_any}
use Rattle.std.specs.Map.{lookup}
use Rattle.std.specs.Ordering.{is_eq}
use Rattle.std.specs.declared.cmp.Ordering.{Ordering}
use Rattle.std.proofs.lemmas.Nat.Bits.{bit_at-zero}
use Rattle.summary_index.specs.Summary.{PlainSummary, Standing, may_fit, zones_at, zones_in}
use Rattle.summary_index.specs.Zones.{has_zone}
use Rattle.summary_index.specs.Knowing.{Knows}

no_zone : (number : ℕ) → has_zone 0 number ≡ false
no_zone number = ap (λ (k : ℕ). k == 1) (bit_at-zero (number - 1))

both : (a b : Bool) → a ≡ true → b ≡ true → (a && b) ≡ true
both a b e h = (λ i. e i && h i)

module _ {K : Type 0} (order : K → K → Ordering) (valid : K → Type 0) (same : (a b : K) → valid a → valid b → is_at (order a) b ≡ true → a ≡ b) where
  -- the entry at a key passes the tests that the key passes
  entry_fits : (fits : K → Bool) (n : ℕ) (key : K) (es : List (K × Standing)) → valid key → AllByRecursion (λ e. valid e.0) es → fits key ≡ true
      → has_zone (zones_at order key es) n ≡ true → list_any (λ e. fits e.0 && has_zone e.1.value n) es ≡ true
  entry_fits fits n key [] is all passes has = absurd (true≢false (sym has ∙ no_zone n))
  entry_fits fits n key (e ∷ es) is all passes has =
      elim (is_at (order key) e.0) as (λ b. is_at (order key) e.0 ≡ b → has_zone (zones_in (cond b (Some e.1) (lookup (is_at (order key)) es))) n ≡ true
      → ((fits e.0 && has_zone e.1.value n) || list_any (λ x. fits x.0 && has_zone x.1.value n) es) ≡ true) [
        | true ↦ λ at h. ap (λ (b : Bool). b || list_any (λ x. fits x.0 && has_zone x.1.value n) es) (both (fits e.0) (has_zone e.1.value n) (ap fits (sym (same key e.0 is all.0 at)) ∙ passes) h)
        | false ↦ λ at h. later (fits e.0 && has_zone e.1.value n) (list_any (λ x. fits x.0 && has_zone x.1.value n) es) (entry_fits fits n key es is all.1 passes h)
      ] refl has
    where
      later : (a b : Bool) → b ≡ true → (a || b) ≡ true
      later true b h = refl
      later false b h = h

module _ {K A : Type 0} (order : K → K → Ordering) (total : IsTotalOrder order) where
  -- each rule is found by its own key
  found_there : (done : List (K × A)) (x : K × A) (xs : List (K × A)) → is_some (lookup (is_at (order x.0)) (done ++ (x ∷ xs))) ≡ true
  found_there [] x xs = ap (λ (b : Bool). is_some (cond b (Some x.1) (lookup (is_at (order x.0)) xs))) (ap is_eq (tied_itself total x.0))
  found_there (d ∷ done) x xs =
      elim (is_at (order x.0) d.0) as (λ b. is_some (cond b (Some d.1) (lookup (is_at (order x.0)) (done ++ (x ∷ xs)))) ≡ true) [
        | true ↦ refl
        | false ↦ found_there done x xs
      ]

  all_found : (done xs : List (K × A)) → AllByRecursion (λ x. is_some (lookup (is_at (order x.0)) (done ++ xs)) ≡ true) xs
  all_found done [] = tt
  all_found done (x ∷ xs) = (
    found_there done x xs,
    subst (λ l. AllByRecursion (λ y. is_some (lookup (is_at (order y.0)) l) ≡ true) xs) (append_assoc done (x ∷ []) xs) (all_found (done ++ x ∷ []) xs),
  )

module _ {K A : Type 0} (order : K → K → Ordering) (total : IsTotalOrder order) (valid : K → Type 0) (same : (a b : K) → valid a → valid b → is_at (order a) b ≡ true → a ≡ b) where
  none_of : (fits : K → Bool) (n : ℕ) (rules xs : List (K × A)) (s : PlainSummary K) → s.is_listed ≡ true → AllByRecursion (λ e. valid e.0) s.triggers → Knows order valid n rules s
      → AllByRecursion (λ r. valid r.0) xs → AllByRecursion (λ x. is_some (lookup (is_at (order x.0)) rules) ≡ true) xs
      → list_any (λ e. fits e.0 && has_zone e.1.value n) s.triggers ≡ false → list_any (λ r. fits r.0) xs ≡ false
  none_of fits n rules [] s listed all knows are found none = refl
  none_of fits n rules (x ∷ xs) s listed all knows are found none =
      elim (fits x.0) as (λ b. fits x.0 ≡ b → (b || list_any (λ r. fits r.0) xs) ≡ false) [
        | true ↦ λ passes. absurd (true≢false (sym (entry_fits order valid same fits n x.0 s.triggers are.0 all passes (knows.exact listed x.0 are.0 ∙ found.0)) ∙ none))
        | false ↦ λ passes. none_of fits n rules xs s listed all knows are.1 found.1 none
      ] refl

  empty_list : (rules : List (K × A)) → list_any (λ _. true) rules ≡ false → (fits : K → Bool) → list_any (λ r. fits r.0) rules ≡ false
  empty_list [] none fits = refl
  empty_list (r ∷ rules) none fits = absurd (true≢false none)

  -- where the zone may not fit, none of its rules does
  pub none_fits : (fits : K → Bool) (n : ℕ) (rules : List (K × A)) (s : PlainSummary K) → AllByRecursion (λ e. valid e.0) s.triggers → AllByRecursion (λ r. valid r.0) rules
      → Knows order valid n rules s → may_fit fits s n ≡ false → list_any (λ r. fits r.0) rules ≡ false
  none_fits fits n rules s all are knows none =
      elim s.is_listed as (λ b. s.is_listed ≡ b → cond b (list_any (λ e. fits e.0 && has_zone e.1.value n) s.triggers) (has_zone s.having n) ≡ false → list_any (λ r. fits r.0) rules ≡ false) [
        | true ↦ λ listed h. none_of fits n rules rules s listed all knows are (all_found order total [] rules) h
        | false ↦ λ unlisted h. empty_list rules (sym knows.having ∙ h) fits
      ] refl none
