-- Entries in order of their keys are told by what is found at each place.
use Rattle.std.proofs.Common.{◌≡◌, Bool, true, false, cond, Some, None, List, [], ◌∷◌, refl, sym, ap, ◌∙◌, unwrap_or}
use Rattle.std.specs.BTreeMap.{insert_entry, is_at}
use Rattle.std.specs.Cmp.{IsTotalOrder}
use Rattle.std.specs.List.{AllByRecursion}
use Rattle.std.specs.List.Sorted.{IsStrictlySortedBy}
use Rattle.std.specs.Map.{keys_of, lookup, remove_entry}
use Rattle.std.specs.Ordering.{is_eq, match_ordering, ordering_reverse}
use Rattle.std.specs.declared.cmp.Ordering.{Ordering}
use Rattle.std.specs.declared.cmp.Ordering.TheVariants.{Less, Equal, Greater}
use Rattle.trie_keys.proofs.ByKey.{Above, above-below, at_itself, apart_from, ordered-others}

module _ {K X : Type 0} (R : K → K → Ordering) (P : K → Type 0) where
  -- what is true of each key stays so
  pub keys-insert : (k : K) (v : X) (es : List (K × X)) → P k → AllByRecursion P (keys_of es) → AllByRecursion P (keys_of (insert_entry R es k v))
  keys-insert k v [] is h = (is, tt)
  keys-insert k v (e ∷ es) is h =
      elim (R k e.0) as (λ c. AllByRecursion P (keys_of (match_ordering c ((k, v) ∷ e ∷ es) ((e.0, v) ∷ es) (e ∷ insert_entry R es k v)))) [
        | Less ↦ (is, h)
        | Equal ↦ h
        | Greater ↦ (h.0, keys-insert k v es is h.1)
      ]

module _ {K X : Type 0} (P : K → Type 0) where
  pub keys-remove : (test : K → Bool) (es : List (K × X)) → AllByRecursion P (keys_of es) → AllByRecursion P (keys_of (remove_entry test es))
  keys-remove test [] h = h
  keys-remove test (e ∷ es) h = elim (test e.0) as (λ b. AllByRecursion P (keys_of (cond b es (e ∷ remove_entry test es)))) [ true ↦ h.1 | false ↦ (h.0, keys-remove test es h.1) ]

module _ {K X : Type 0} {R : K → K → Ordering} (o : IsTotalOrder R) where
  pub none_found : (q : K) (es : List (K × X)) → AllByRecursion (λ y. is_at (R q) y ≡ false) (keys_of es) → lookup (is_at (R q)) es ≡ None
  none_found q [] h = refl
  none_found q (e ∷ es) h = ap (λ (b : Bool). cond b (Some e.1) (lookup (is_at (R q)) es)) h.0 ∙ none_found q es h.1

  pub none_above : (q : K) (es : List (K × X)) → Above o q (keys_of es) → lookup (is_at (R q)) es ≡ None
  none_above q [] h = refl
  none_above q (e ∷ es) h = ap (λ (c : Ordering). cond (is_eq c) (Some e.1) (lookup (is_at (R q)) es)) h.0 ∙ none_above q es h.1

  found_first : (q : K) (e : K × X) (es : List (K × X)) → is_at (R q) e.0 ≡ true → lookup (is_at (R q)) (e ∷ es) ≡ Some e.1
  found_first q e es h = ap (λ (b : Bool). cond b (Some e.1) (lookup (is_at (R q)) es)) h

  some-none : (x : X) → Some x ≡ None → ⊥
  some-none x h = cc h

  not_before : (e f : K × X) (es fs : List (K × X)) → IsStrictlySortedBy R (keys_of (f ∷ fs)) → lookup (is_at (R e.0)) (e ∷ es) ≡ lookup (is_at (R e.0)) (f ∷ fs) → R e.0 f.0 ≡ Less → ⊥
  unfolding IsStrictlySortedBy
  not_before e f es fs s same less =
      let none : lookup (is_at (R e.0)) (f ∷ fs) ≡ None = none_above e.0 (f ∷ fs) (less, above-below o e.0 f.0 (keys_of fs) less s.0) in
      some-none e.1 (sym (found_first e.0 e es (at_itself o e.0)) ∙ same ∙ none)

  others_alike : (b : Bool) (q : K) (e f : K × X) (es fs : List (K × X)) → is_at (R q) e.0 ≡ b → e.0 ≡ f.0 → IsStrictlySortedBy R (keys_of (e ∷ es)) → IsStrictlySortedBy R (keys_of (f ∷ fs))
      → lookup (is_at (R q)) (e ∷ es) ≡ lookup (is_at (R q)) (f ∷ fs) → lookup (is_at (R q)) es ≡ lookup (is_at (R q)) fs
  others_alike true q e f es fs h key s t same =
      none_found q es (apart_from o q e es h s) ∙ sym (none_found q fs (apart_from o q f fs (ap (is_at (R q)) (sym key) ∙ h) t))
  others_alike false q e f es fs h key s t same =
      sym (ap (λ (b : Bool). cond b (Some e.1) (lookup (is_at (R q)) es)) h) ∙ same ∙ ap (λ (b : Bool). cond b (Some f.1) (lookup (is_at (R q)) fs)) (ap (is_at (R q)) (sym key) ∙ h)

  module _ (P : K → Type 0) (told : (p q : K) → P p → P q → is_at (R p) q ≡ true → p ≡ q) where
    pub same_entries : (es fs : List (K × X)) → IsStrictlySortedBy R (keys_of es) → IsStrictlySortedBy R (keys_of fs) → AllByRecursion P (keys_of es) → AllByRecursion P (keys_of fs)
        → ((q : K) → P q → lookup (is_at (R q)) es ≡ lookup (is_at (R q)) fs) → es ≡ fs
    same_entries [] [] s t is_e is_f same = refl
    same_entries [] (f ∷ fs) s t is_e is_f same = absurd (some-none f.1 (sym (found_first f.0 f fs (at_itself o f.0)) ∙ sym (same f.0 is_f.0)))
    same_entries (e ∷ es) [] s t is_e is_f same = absurd (some-none e.1 (sym (found_first e.0 e es (at_itself o e.0)) ∙ same e.0 is_e.0))
    same_entries (e ∷ es) (f ∷ fs) s t is_e is_f same =
        elim (R e.0 f.0) as (λ c. R e.0 f.0 ≡ c → (e ∷ es) ≡ (f ∷ fs)) [
          | Less ↦ λ h. absurd (not_before e f es fs t (same e.0 is_e.0) h)
          | Equal ↦ λ h.
              let key : e.0 ≡ f.0 = told e.0 f.0 is_e.0 is_f.0 (ap is_eq h) in
              let value : Some e.1 ≡ Some f.1 = sym (found_first e.0 e es (at_itself o e.0)) ∙ same e.0 is_e.0 ∙ found_first e.0 f fs (ap is_eq h) in
              let others : es ≡ fs =
              same_entries es fs (ordered-others o e es s) (ordered-others o f fs t) is_e.1 is_f.1
              (λ q is. others_alike (is_at (R q) e.0) q e f es fs refl key s t (same q is)) in
              λ i. (key i, unwrap_or (value i) e.1) ∷ others i
          | Greater ↦ λ h. absurd (not_before f e fs es s (sym (same f.0 is_f.0)) (o.antisymm f.0 e.0 ∙ ap ordering_reverse h))
        ] refl
