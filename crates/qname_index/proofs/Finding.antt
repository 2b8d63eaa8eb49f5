-- The last entry of a trie that fits a name is the first in order of precedence that matches it.
use Rattle.std.proofs.Common.{◌≡◌, ℕ, ◌⊎◌, inl, inr, Bool, true, false, ◌&&◌, cond, Option, Some, None, List, [], ◌∷◌, refl, sym, ap, ◌∙◌, subst, is_eq}
use Rattle.std.specs.BTreeMap.{insert_entry, is_at}
use Rattle.std.specs.Cmp.{tied_itself}
use Rattle.std.specs.List.{AllByRecursion, find}
use Rattle.std.specs.List.Sorted.{IsStrictlySortedBy}
use Rattle.std.specs.Map.{keys_of, lookup}
use Rattle.std.specs.Option.{option_map}
use Rattle.std.specs.Ordering.{match_ordering}
use Rattle.std.specs.declared.cmp.Ordering.{Ordering}
use Rattle.std.specs.declared.cmp.Ordering.TheVariants.{Less, Equal, Greater}
use Rattle.dns_name.specs.Alike.{PlainPattern, matches}
use Rattle.dns_name.specs.Labels.{Name, lowered}
use Rattle.octet_trie.specs.Fits.{fits}
use Rattle.qname_index.specs.Best.{pattern_order}
use Rattle.trie_keys.specs.Scan.{last_where}
use Rattle.qname_index.specs.Key.{name_key}
use Rattle.qname_index.specs.Patterns.{pattern_in}
use Rattle.qname_index.specs.Ranked.{IsPatternKey, patterns, ranked, ranked_patterns}
use Rattle.qname_index.specs.Trie.{IsNameTrie}
use Rattle.trie_keys.proofs.ByKey.{above-below}
use Rattle.qname_index.proofs.Last.{IsBefore, last_found, last_all, last_passes, last_none_all}
use Rattle.qname_index.proofs.Longer.{AreAlike, AreWithin, fits_is, last_first}
use Rattle.qname_index.proofs.Matching.{first_true}
use Rattle.trie_keys.proofs.OneList.{none_above}
use Rattle.qname_index.proofs.Ranking.{found_at, sorted_ranked}
use Rattle.qname_index.proofs.Same.{key_order, key_total, pattern_total, same_pattern}

never : (b : Bool) → (b ≡ true → ⊥) → b ≡ false
never true h = absurd (h refl)
never false h = refl

not_both : (o : Ordering) → o ≡ Less → o ≡ Greater → ⊥
not_both o e f = let k : Less ≡ Greater = sym e ∙ f in cc k

not_tied : (o : Ordering) → o ≡ Equal → o ≡ Greater → ⊥
not_tied o e f = let k : Equal ≡ Greater = sym e ∙ f in cc k

at_place : (p q : PlainPattern) → pattern_order p q ≡ Equal → p ≡ q
at_place p q e = same_pattern p q (ap is_eq e)

module _ {V : Type 0} where
  abbrev look : PlainPattern → List (PlainPattern × V) → Option V
  look q es = lookup (is_at (pattern_order q)) es

  some_same : (x y : V) → Some x ≡ Some y → x ≡ y
  some_same x y e = cc e

  no_some : (x : V) → None ≡ Some x → ⊥
  no_some x e = cc e

  -- what is so of all is so of all in order
  all_inserted : (P : PlainPattern × V → Type 0) (k : PlainPattern) (v : V) (es : List (PlainPattern × V)) → P (k, v) → AllByRecursion P es → AllByRecursion P (insert_entry pattern_order es k v)
  all_inserted P k v [] here all = (here, tt)
  all_inserted P k v (e ∷ es) here all =
      elim (pattern_order k e.0) as (λ o. pattern_order k e.0 ≡ o → AllByRecursion P (match_ordering o ((k, v) ∷ e ∷ es) ((e.0, v) ∷ es) (e ∷ insert_entry pattern_order es k v))) [
        | Less ↦ λ h. (here, all)
        | Equal ↦ λ h. (subst (λ q. P (q, v)) (at_place k e.0 h) here, all.1)
        | Greater ↦ λ h. (all.0, all_inserted P k v es here all.1)
      ] refl

  pub all_ranked : (P : PlainPattern × V → Type 0) (es : List (PlainPattern × V)) → AllByRecursion P es → AllByRecursion P (ranked es)
  all_ranked P [] all = tt
  all_ranked P (e ∷ es) all = all_inserted P e.0 e.1 (ranked es) all.0 (all_ranked P es all.1)

  -- what is so of all by their keys is so of all by their patterns
  pub all_patterns : (P : PlainPattern × V → Type 0) (Q S : List ℕ × V → Type 0) (es : List (List ℕ × V)) → ((e : List ℕ × V) → Q e → S e → P (pattern_in e.0, e.1)) → AllByRecursion Q es → AllByRecursion S es → AllByRecursion P (patterns es)
  all_patterns P Q S [] f q s = tt
  all_patterns P Q S (e ∷ es) f q s = (f e q.0 s.0, all_patterns P Q S es f q.1 s.1)

  find_none : (test : PlainPattern × V → Bool) (es : List (PlainPattern × V)) → AllByRecursion (λ e. test e ≡ false) es → find test es ≡ None
  find_none test [] all = refl
  find_none test (e ∷ es) all = ap (λ b. cond b (Some e) (find test es)) all.0 ∙ find_none test es all.1

  -- an entry that passes, and that no other that passes comes before, is found first
  find_first : (test : PlainPattern × V → Bool) (p : PlainPattern) (v : V) (es : List (PlainPattern × V)) → IsStrictlySortedBy pattern_order (keys_of es)
      → AllByRecursion (λ x. test x ≡ true → (pattern_order p x.0 ≡ Less) ⊎ (x.0 ≡ p)) es → look p es ≡ Some v → test (p, v) ≡ true → find test es ≡ Some (p, v)
  unfolding IsStrictlySortedBy
  find_first test p v [] sorted all here passes = absurd (no_some v here)
  find_first test p v (x ∷ xs) sorted all here passes =
      elim (pattern_order p x.0) as (λ o. pattern_order p x.0 ≡ o → cond (is_eq o) (Some x.1) (look p xs) ≡ Some v → find test (x ∷ xs) ≡ Some (p, v)) [
        | Less ↦ λ o h. absurd (no_some v (sym (none_above pattern_total p xs (above-below pattern_total p x.0 (keys_of xs) o sorted.0)) ∙ h))
        | Equal ↦ λ o h.
            let same : p ≡ x.0 = at_place p x.0 o in
            let value : x.1 ≡ v = some_same x.1 v h in
            let entry : PlainPattern × V = (p, v) in
            let whole : x ≡ entry = λ i. (sym same i, value i) in
            ap (λ b. cond b (Some x) (find test xs)) (ap test whole ∙ passes) ∙ ap (λ (e : PlainPattern × V). Some e) whole
        | Greater ↦ λ o h.
            let skipped : test x ≡ false = never (test x) (λ t. elim (all.0 t) as (λ _. ⊥) [
              | inl lt ↦ not_both (pattern_order p x.0) lt o
              | inr e ↦ not_tied (pattern_order p x.0) (ap (pattern_order p) e ∙ tied_itself pattern_total p) o
            ]) in
            ap (λ b. cond b (Some x) (find test xs)) skipped ∙ find_first test p v xs sorted.1 all.1 h passes
      ] refl here

module _ {V : Type 0} (acts : V → Bool) (name : Name) (lower : lowered name ≡ name) (alike : AreAlike) (within : AreWithin) where
  -- by octets, and by names
  abbrev hit : List ℕ × V → Bool
  hit e = fits (name_key name) e.0 && acts e.1

  abbrev test : PlainPattern × V → Bool
  test e = matches e.0 name && acts e.1

  hit_is : (e : List ℕ × V) → IsPatternKey e.0 → hit e ≡ test (pattern_in e.0, e.1)
  hit_is e is = ap (λ t. t && acts e.1) (fits_is name e.0 is lower alike within)

  pub best_found : (es : List (List ℕ × V)) → IsNameTrie es → option_map (λ e. (pattern_in e.0, e.1)) (last_where hit es) ≡ find test (ranked_patterns es)
  best_found es is =
      elim (last_where hit es) as (λ o. last_where hit es ≡ o → option_map (λ e. (pattern_in e.0, e.1)) o ≡ find test (ranked_patterns es)) [
        | None ↦ λ none.
            sym (find_none test (ranked_patterns es) (all_ranked (λ e. test e ≡ false) (patterns es)
            (all_patterns (λ e. test e ≡ false) (λ e. IsPatternKey e.0) (λ e. hit e ≡ false) es (λ e k h. sym (hit_is e k) ∙ h) is.keys (last_none_all hit es none))))
        | Some e ↦ λ some.
            let found = last_found key_order key_total hit es e is.ordered some in
            let key : IsPatternKey e.0 = last_all hit (λ x. IsPatternKey x.0) es e is.keys some in
            let hits : hit e ≡ true = last_passes hit es e some in
            let passes : test (pattern_in e.0, e.1) ≡ true = sym (hit_is e key) ∙ hits in
            let P : PlainPattern × V → Type 0 = λ x. test x ≡ true → (pattern_order (pattern_in e.0) x.0 ≡ Less) ⊎ (x.0 ≡ pattern_in e.0) in
            let here : AllByRecursion P (patterns es) =
            all_patterns P (λ x. IsPatternKey x.0) (IsBefore key_order key_total hit e.0) es
            (λ x k h t.
            let passed : hit x ≡ true = hit_is x k ∙ t in
            elim (h passed) as (λ _. (pattern_order (pattern_in e.0) (pattern_in x.0) ≡ Less) ⊎ (pattern_in x.0 ≡ pattern_in e.0)) [
              | inl lt ↦ inl (last_first name e.0 x.0 key k (first_true _ _ hits) (first_true _ _ passed) lt)
              | inr s ↦ inr (ap pattern_in s)
            ])
            is.keys found.1 in
            let there : look (pattern_in e.0) (ranked_patterns es) ≡ Some e.1 = found_at (pattern_in e.0) es is.keys ∙ ap (λ k. lookup (is_at (key_order k)) es) (sym key.same) ∙ found.0 in
            sym (find_first test (pattern_in e.0) e.1 (ranked_patterns es) (sorted_ranked (patterns es)) (all_ranked P (patterns es) here) there passes)
      ] refl
