-- Entries of which tries are made, with one more.
use Rattle.std.proofs.Common.{◌≡◌, ℕ, ◌+◌, true, List, [], ◌∷◌, ◌++◌, None, map, refl, sym, ap, ◌∙◌, subst}
use Rattle.std.specs.BTreeMap.{insert_entry, is_at}
use Rattle.std.specs.List.{AllByRecursion}
use Rattle.std.specs.Map.{lookup}
use Rattle.std.specs.declared.cmp.Ordering.{Ordering}
use Rattle.std.proofs.lemmas.List.{map-append}
use Rattle.dns_name.specs.Alike.{PlainPattern}
use Rattle.ip_prefix.specs.Prefix.{PlainPrefix, prefix_order}
use Rattle.qname_index.specs.Patterns.{pattern_in}
use Rattle.qname_index.specs.Ranked.{ArePatternKeys, IsPatternKey, patterns}
use Rattle.qname_index.specs.Key.{name_key}
use Rattle.qname_index.specs.Ranked.{pattern_key}
use Rattle.octet_trie.specs.ListKeys.{entry_key}
use Rattle.octet_trie.specs.Trie.{found_entry}
use Rattle.qname_index.specs.Index.{IsKey}
use Rattle.octet_trie.specs.declared.trie.OctetFound.{OctetFound}
use Rattle.prefix_index.proofs.Order.{prefix_order_total}
use Rattle.prefix_index.specs.Ranked.{with_all as with_prefixes}
use Rattle.qname_index.specs.Best.{pattern_order}
use Rattle.trie_keys.specs.Filling.{with_all}
use Rattle.trie_keys.specs.declared.marked.Marked.{Marked}
use Rattle.trigger_codec.specs.Bases.{IsPattern}
use Rattle.zone_index.proofs.Counting.{counted_none, counted_with}
use Rattle.zone_index.proofs.Lower.{patterns_none, patterns_with}
use Rattle.zone_index.specs.Counted.{acting_in, one_acting}
use Rattle.zone_index.specs.Kept.{is_kept}
use Rattle.zone_index.specs.Made.{AreFoundPatterns, AreFoundPrefixes, patterns_of, prefixes_of}
use Rattle.zone_index.specs.declared.kept.Kept.{Kept}

pub all_more : {X : Type 0} (P : X → Type 0) (xs : List X) (x : X) → AllByRecursion P xs → P x → AllByRecursion P (xs ++ x ∷ [])
all_more P [] x all h = (h, tt)
all_more P (y ∷ xs) x all h = (all.0, all_more P xs x all.1 h)

with_more : {K V : Type 0} (order : K → K → Ordering) (es xs : List (K × V)) (e : K × V) → with_all order es (xs ++ e ∷ []) ≡ insert_entry order (with_all order es xs) e.0 e.1
with_more order es [] e = refl
with_more order es (x ∷ xs) e = with_more order (insert_entry order es x.0 x.1) xs e

with_prefix : {V : Type 0} (es xs : List (PlainPrefix × V)) (e : PlainPrefix × V) → with_prefixes es (xs ++ e ∷ []) ≡ insert_entry prefix_order (with_prefixes es xs) e.0 e.1
with_prefix es [] e = refl
with_prefix es (x ∷ xs) e = with_prefix (insert_entry prefix_order es x.0 x.1) xs e

-- ---- patterns

module _ (found : List (OctetFound ℕ Kept)) (f : OctetFound ℕ Kept) (pattern : PlainPattern) (is : pattern_in (found_entry f).0 ≡ pattern) where
  pub patterns_more : patterns_of (found ++ f ∷ []) ≡ insert_entry pattern_order (patterns_of found) pattern f.value
  patterns_more =
      ap (λ es. with_all pattern_order [] (patterns es)) (map-append found_entry found (f ∷ []))
      ∙ ap (with_all pattern_order []) (map-append (λ e. (pattern_in e.0, e.1)) (map found_entry found) (found_entry f ∷ []))
      ∙ with_more pattern_order [] (patterns (map found_entry found)) (pattern_in (found_entry f).0, f.value)
      ∙ ap (λ p. insert_entry pattern_order (patterns_of found) p f.value) is

  pub found_patterns : (acting new : ℕ) (whole : List (PlainPattern × Marked ℕ Kept)) → AreFoundPatterns found acting → patterns_of found ≡ whole → IsPatternKey (found_entry f).0 → is_kept f.value.mark ≡ true
      → IsPattern pattern → lookup (is_at (pattern_order pattern)) whole ≡ None → new + acting_in None ≡ acting + one_acting f.value → AreFoundPatterns (found ++ f ∷ []) new
  found_patterns acting new whole are e key present lower none count = record {
    keys = subst ArePatternKeys (sym (map-append found_entry found (f ∷ []))) (all_more (λ e. IsPatternKey e.0) (map found_entry found) (found_entry f) are.keys key);
    present = all_more (λ e. is_kept e.value.mark ≡ true) found f are.present present;
    counted = patterns_with pattern f.value (patterns_of found) whole (patterns_of (found ++ f ∷ [])) acting new None are.counted e lower (sym none) count patterns_more;
  }

-- the entry of a pattern
module _ (found : List (OctetFound ℕ Kept)) (f : OctetFound ℕ Kept) (pattern : PlainPattern) (key_is : f.key.now ≡ name_key pattern.base) (wild_is : f.wild ≡ pattern.wild)
    (back : (p : PlainPattern) → pattern_in (pattern_key p) ≡ p) (are_keys : (p : PlainPattern) → IsKey p → IsPatternKey (pattern_key p)) where
  its_key : (found_entry f).0 ≡ pattern_key pattern
  its_key = λ i. entry_key (key_is i) (wild_is i)

  its_pattern : pattern_in (found_entry f).0 ≡ pattern
  its_pattern = ap pattern_in its_key ∙ back pattern

  pub pattern_put : (whole : List (PlainPattern × Marked ℕ Kept)) (new : List (OctetFound ℕ Kept)) → patterns_of found ≡ whole → new ≡ found ++ f ∷ [] → patterns_of new ≡ insert_entry pattern_order whole pattern f.value
  pattern_put whole new are e = ap patterns_of e ∙ patterns_more found f pattern its_pattern ∙ ap (λ es. insert_entry pattern_order es pattern f.value) are

  pub pattern_found : (acting count : ℕ) (whole : List (PlainPattern × Marked ℕ Kept)) (new : List (OctetFound ℕ Kept)) → AreFoundPatterns found acting → patterns_of found ≡ whole → new ≡ found ++ f ∷ [] → is_kept f.value.mark ≡ true
      → IsPattern pattern → lookup (is_at (pattern_order pattern)) whole ≡ None → count + acting_in None ≡ acting + one_acting f.value → AreFoundPatterns new count
  pattern_found acting count whole new are h e present lower none counts =
      let key : IsPatternKey (found_entry f).0 = subst IsPatternKey (sym its_key) (are_keys pattern (record { name = lower.is_base; lower_case = lower.is_lower_case })) in
      subst (λ l. AreFoundPatterns l count) (sym e) (found_patterns found f pattern its_pattern acting count whole are h key present lower none counts)

-- ---- prefixes

module _ (found : List (PlainPrefix × Marked ℕ Kept)) (e : PlainPrefix × Marked ℕ Kept) where
  pub prefixes_more : prefixes_of (found ++ e ∷ []) ≡ insert_entry prefix_order (prefixes_of found) e.0 e.1
  prefixes_more = with_prefix [] found e

  pub found_prefixes : (acting new : ℕ) (whole : List (PlainPrefix × Marked ℕ Kept)) → AreFoundPrefixes found acting → prefixes_of found ≡ whole → is_kept e.1.mark ≡ true
      → lookup (is_at (prefix_order e.0)) whole ≡ None → new + acting_in None ≡ acting + one_acting e.1 → AreFoundPrefixes (found ++ e ∷ []) new
  found_prefixes acting new whole are h present none count = record {
    present = all_more (λ e. is_kept e.1.mark ≡ true) found e are.present present;
    counted = counted_with prefix_order prefix_order_total e.0 e.1 (prefixes_of found) whole (prefixes_of (found ++ e ∷ [])) acting new None are.counted h (sym none) count prefixes_more;
  }

-- ---- none

pub no_patterns : (found : List (OctetFound ℕ Kept)) → found ≡ [] → AreFoundPatterns found 0
no_patterns found e = subst (λ l. AreFoundPatterns l 0) (sym e) (record { keys = tt; present = tt; counted = patterns_none [] refl })

pub no_prefixes : (found : List (PlainPrefix × Marked ℕ Kept)) → found ≡ [] → AreFoundPrefixes found 0
no_prefixes found e = subst (λ l. AreFoundPrefixes l 0) (sym e) (record { present = tt; counted = counted_none prefix_order [] refl })
