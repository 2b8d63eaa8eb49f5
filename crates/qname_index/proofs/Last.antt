-- The last entry that passes, among entries in the order of their keys.
use Rattle.std.proofs.Common.{◌≡◌, ◌⊎◌, inl, inr, Bool, true, false, cond, Option, Some, None, List, [], ◌∷◌, refl, sym, ap, ◌∙◌, subst, is_eq}
use Rattle.std.specs.BTreeMap.{is_at}
use Rattle.std.specs.Cmp.{IsTotalOrder, tied_itself}
use Rattle.std.specs.List.{AllByRecursion}
use Rattle.std.specs.List.Sorted.{IsStrictlySortedBy}
use Rattle.std.specs.Map.{keys_of, lookup}
use Rattle.std.specs.Ordering.{ordering_reverse}
use Rattle.std.specs.declared.cmp.Ordering.{Ordering}
use Rattle.std.specs.declared.cmp.Ordering.TheVariants.{Less, Equal, Greater}
use Rattle.trie_keys.specs.Scan.{last_where, option_else}

some_same : {A : Type 0} (x y : A) → Some x ≡ Some y → x ≡ y
some_same x y e = cc e

no_some : {A : Type 0} (x : A) → None ≡ Some x → ⊥
no_some x e = cc e

-- the last entry is among them, and what is so of all is so of it
module _ {K V : Type 0} (test : K × V → Bool) where
  pub last_all : (P : K × V → Type 0) (es : List (K × V)) (e : K × V) → AllByRecursion P es → last_where test es ≡ Some e → P e
  last_all P [] e all h = absurd (no_some e h)
  last_all P (x ∷ xs) e all h =
      elim (last_where test xs) as (λ o. last_where test xs ≡ o → option_else o (cond (test x) (Some x) None) ≡ Some e → P e) [
        | None ↦ λ _ h. elim (test x) as (λ b. cond b (Some x) None ≡ Some e → P e) [ true ↦ λ h. subst P (some_same x e h) all.0 | false ↦ λ h. absurd (no_some e h) ] h
        | Some y ↦ λ k h. last_all P xs e all.1 (k ∙ h)
      ] refl h

  pub last_passes : (es : List (K × V)) (e : K × V) → last_where test es ≡ Some e → test e ≡ true
  last_passes [] e h = absurd (no_some e h)
  last_passes (x ∷ xs) e h =
      elim (last_where test xs) as (λ o. last_where test xs ≡ o → option_else o (cond (test x) (Some x) None) ≡ Some e → test e ≡ true) [
        | None ↦ λ _ h. elim (test x) as (λ b. test x ≡ b → cond b (Some x) None ≡ Some e → test e ≡ true) [ true ↦ λ t h. ap test (sym (some_same x e h)) ∙ t | false ↦ λ _ h. absurd (no_some e h) ] refl h
        | Some y ↦ λ k h. last_passes xs e (k ∙ h)
      ] refl h

  none_left : (o : Option (K × V)) (b : Bool) (x : K × V) → option_else o (cond b (Some x) None) ≡ None → (o ≡ None) × (b ≡ false)
  none_left None true x h = absurd (no_some x (sym h))
  none_left None false x h = (refl, refl)
  none_left (Some y) b x h = absurd (no_some y (sym h))

  pub last_none_all : (es : List (K × V)) → last_where test es ≡ None → AllByRecursion (λ e. test e ≡ false) es
  last_none_all [] h = tt
  last_none_all (x ∷ xs) h = let k = none_left (last_where test xs) (test x) x h in (k.1, last_none_all xs k.0)

module _ {K V : Type 0} (R : K → K → Ordering) (o : IsTotalOrder R) (test : K × V → Bool) where
  turned : (a b : K) → R a b ≡ Less → R b a ≡ Greater
  turned a b e = o.antisymm b a ∙ ap ordering_reverse e

  found_behind : (q : K) (x : K × V) (xs : List (K × V)) → R x.0 q ≡ Less → lookup (is_at (R q)) (x ∷ xs) ≡ lookup (is_at (R q)) xs
  found_behind q x xs less = ap (λ o. cond (is_eq o) (Some x.1) (lookup (is_at (R q)) xs)) (turned x.0 q less)

  -- an entry that passes has a key before this one, or this key
  abbrev pub IsBefore : K → K × V → Type 0
  IsBefore key x = test x ≡ true → (R x.0 key ≡ Less) ⊎ (x.0 ≡ key)

  all_false : (key : K) (xs : List (K × V)) → AllByRecursion (λ x. test x ≡ false) xs → AllByRecursion (IsBefore key) xs
  all_false key [] all = tt
  all_false key (x ∷ xs) all = ((λ h. let k : true ≡ false = sym h ∙ all.0 in absurd (cc k)), all_false key xs all.1)

  to_entries : (P : K → Type 0) (xs : List (K × V)) → AllByRecursion P (keys_of xs) → AllByRecursion (λ x. P x.0) xs
  to_entries P [] all = tt
  to_entries P (x ∷ xs) all = (all.0, to_entries P xs all.1)

  pub last_found : (es : List (K × V)) (e : K × V) → IsStrictlySortedBy R (keys_of es) → last_where test es ≡ Some e → (lookup (is_at (R e.0)) es ≡ Some e.1) × AllByRecursion (IsBefore e.0) es
  unfolding IsStrictlySortedBy
  last_found [] e sorted h = absurd (no_some e h)
  last_found (x ∷ xs) e sorted h =
      elim (last_where test xs) as (λ o. last_where test xs ≡ o → option_else o (cond (test x) (Some x) None) ≡ Some e → (lookup (is_at (R e.0)) (x ∷ xs) ≡ Some e.1) × AllByRecursion (IsBefore e.0) (x ∷ xs)) [
        | None ↦ λ none h. elim (test x) as (λ b. cond b (Some x) None ≡ Some e → (lookup (is_at (R e.0)) (x ∷ xs) ≡ Some e.1) × AllByRecursion (IsBefore e.0) (x ∷ xs)) [
          | true ↦ λ h.
              let same : x ≡ e = some_same x e h in
              let key_same : x.0 ≡ e.0 = ap (λ (y : K × V). y.0) same in
              let tie : R e.0 x.0 ≡ Equal = ap (R e.0) key_same ∙ tied_itself o e.0 in
              (ap (λ c. cond (is_eq c) (Some x.1) (lookup (is_at (R e.0)) xs)) tie ∙ ap (λ (y : K × V). Some y.1) same, ((λ _. inr key_same), all_false e.0 xs (last_none_all test xs none)))
          | false ↦ λ h. absurd (no_some e h)
        ] h
        | Some y ↦ λ k h.
            let there : last_where test xs ≡ Some e = k ∙ h in
            let rest = last_found xs e sorted.1 there in
            let less : R x.0 e.0 ≡ Less = last_all test (λ y. R x.0 y.0 ≡ Less) xs e (to_entries (λ y. R x.0 y ≡ Less) xs sorted.0) there in
            (found_behind e.0 x xs less ∙ rest.0, ((λ _. inl less), rest.1))
      ] refl h
