-- What is found in entries of which a trie is made, or that stand in one, where the trie has other keys.
use Rattle.std.proofs.Common.{◌≡◌, ℕ, Bool, true, false, cond, Option, Some, None, List, [], ◌∷◌, map, refl, sym, ap, ◌∙◌, subst}
use Rattle.std.specs.BTreeMap.{insert_entry, is_at}
use Rattle.std.specs.Cmp.{IsTotalOrder}
use Rattle.std.specs.List.{AllByRecursion}
use Rattle.std.specs.List.Sorted.{IsStrictlySortedBy}
use Rattle.std.specs.Map.{keys_of, lookup}
use Rattle.std.specs.declared.cmp.Ordering.{Ordering}
use Rattle.dns_name.specs.Alike.{PlainPattern}
use Rattle.ip_prefix.specs.Prefix.{PlainPrefix, prefix_order}
use Rattle.octet_trie.specs.Trie.{found_entry}
use Rattle.octet_trie.specs.declared.trie.OctetFound.{OctetFound}
use Rattle.prefix_index.proofs.Order.{prefix_order_total}
use Rattle.prefix_index.specs.Ranked.{with_all as with_prefixes}
use Rattle.qname_index.specs.Best.{pattern_order}
use Rattle.qname_index.specs.Patterns.{pattern_in}
use Rattle.qname_index.specs.Ranked.{ArePatternKeys, IsPatternKey, pattern_key, patterns, ranked, ranked_patterns}
use Rattle.qname_index.specs.Trie.{IsNameTrie}
use Rattle.trie_keys.specs.Filling.{with_all}
use Rattle.trie_keys.proofs.Filling.{with_sorted}
use Rattle.summary_index.specs.Entries.{in_trie}
use Rattle.summary_index.specs.Summary.{Standing, zones_at, zones_in}
use Rattle.summary_index.proofs.MergedZones.{key_order, key_total}
use Rattle.trie_keys.proofs.ByKey.{InOrder, apart_from, lookup-insert_entry, ordered-others}
use Rattle.summary_index.proofs.Patterns.{at_key}
use Rattle.summary_index.proofs.Putting.{none_found, pattern_total}

abbrev choose : {V : Type 0} → Option V → Option V → Option V
choose None other = other
choose (Some v) other = Some v

only : {V : Type 0} (found : Option V) → choose found None ≡ found
only None = refl
only (Some v) = refl

-- R orders the keys of a trie, and S those of the entries
module _ {K P V : Type 0} {R : P → P → Ordering} {S : K → K → Ordering} (r : IsTotalOrder R) (s : IsTotalOrder S) (f : K → P) where
  -- the query is at an entry's place in the trie where it is among the entries
  abbrev pub AreAlike : P → K → List (K × V) → Type 0
  AreAlike q k es = AllByRecursion (λ e. is_at (R q) (f e.0) ≡ is_at (S k) e.0) es

  abbrev placed : List (K × V) → List (P × V)
  placed es = map (λ e. (f e.0, e.1)) es

  one_put : (q : P) (k : K) (e : K × V) (es : List (K × V)) (before : Option V) (b c : Bool) → b ≡ c → is_at (S k) e.0 ≡ c → InOrder s (e ∷ es)
      → choose (lookup (is_at (S k)) es) (cond b (Some e.1) before) ≡ choose (cond c (Some e.1) (lookup (is_at (S k)) es)) before
  one_put q k e es before true true same h sorted = ap (λ found. choose found (Some e.1)) (none_found s k es (apart_from s k e es h sorted))
  one_put q k e es before true false same h sorted = cc same
  one_put q k e es before false true same h sorted = cc same
  one_put q k e es before false false same h sorted = refl

  pub filled : (q : P) (k : K) (done : List (P × V)) (es : List (K × V)) → InOrder s es → AreAlike q k es
      → lookup (is_at (R q)) (with_all R done (placed es)) ≡ choose (lookup (is_at (S k)) es) (lookup (is_at (R q)) done)
  filled q k done [] sorted alike = refl
  filled q k done (e ∷ es) sorted alike =
      filled q k (insert_entry R done (f e.0) e.1) es (ordered-others s e es sorted) alike.1
      ∙ ap (λ found. choose (lookup (is_at (S k)) es) found) (lookup-insert_entry r q (f e.0) e.1 done)
      ∙ one_put q k e es (lookup (is_at (R q)) done) (is_at (R q) (f e.0)) (is_at (S k) e.0) alike.0 refl sorted

  found_placed : (q : P) (k : K) (es : List (K × V)) → AreAlike q k es → lookup (is_at (R q)) (placed es) ≡ lookup (is_at (S k)) es
  found_placed q k [] alike = refl
  found_placed q k (e ∷ es) alike = λ i. cond (alike.0 i) (Some e.1) (found_placed q k es alike.1 i)

-- ---- entries with marks by which they are in a trie

module _ {K : Type 0} where
  same_zones : (b : Bool) (e : K × Standing) (found other : Option Standing) → zones_in found ≡ zones_in other → zones_in (cond b (Some (in_trie e).1) found) ≡ zones_in (cond b (Some e.1) other)
  same_zones true e found other same = refl
  same_zones false e found other same = same

  pub zones_in_trie : (test : K → Bool) (es : List (K × Standing)) → zones_in (lookup test (map in_trie es)) ≡ zones_in (lookup test es)
  zones_in_trie test [] = refl
  zones_in_trie test (e ∷ es) = same_zones (test e.0) e (lookup test (map in_trie es)) (lookup test es) (zones_in_trie test es)

  pub keys_in_trie : (es : List (K × Standing)) → keys_of (map in_trie es) ≡ keys_of es
  keys_in_trie [] = refl
  keys_in_trie (e ∷ es) = ap (λ ks. e.0 ∷ ks) (keys_in_trie es)

  pub all_in_trie : (Q : K → Type 0) (es : List (K × Standing)) → AllByRecursion (λ e. Q e.0) es → AllByRecursion (λ e. Q e.0) (map in_trie es)
  all_in_trie Q [] all = tt
  all_in_trie Q (e ∷ es) all = (all.0, all_in_trie Q es all.1)

  pub all_present : (es : List (K × Standing)) → AllByRecursion (λ e. e.1.mark ≡ true) (map in_trie es)
  all_present [] = tt
  all_present (e ∷ es) = (refl, all_present es)

pub in_trie_sorted : {K : Type 0} (order : K → K → Ordering) (es : List (K × Standing)) → IsStrictlySortedBy order (keys_of es) → IsStrictlySortedBy order (keys_of (map in_trie es))
in_trie_sorted order es sorted = subst (λ ks. IsStrictlySortedBy order ks) (sym (keys_in_trie es)) sorted

-- ---- patterns

pub present_found : (entries : List (OctetFound ℕ Bool)) → AllByRecursion (λ e. e.1.mark ≡ true) (map found_entry entries) → AllByRecursion (λ e. e.value.mark ≡ true) entries
present_found [] all = tt
present_found (e ∷ es) all = (all.0, present_found es all.1)

module _ (back : (p : PlainPattern) → pattern_in (pattern_key p) ≡ p) where
  alike : (p : PlainPattern) (es : List (List ℕ × Standing)) → ArePatternKeys es → AllByRecursion (λ e. is_at (pattern_order p) (pattern_in e.0) ≡ is_at (key_order (pattern_key p)) e.0) es
  alike p [] are = tt
  alike p (e ∷ es) are = (at_key back p e.0 are.0, alike p es are.1)

  -- the zones at a pattern of a trie that is made of entries
  pub zones_listed : (es marked : List (List ℕ × Standing)) (trie : List (PlainPattern × Standing)) → IsNameTrie es → marked ≡ map in_trie es → trie ≡ with_all pattern_order [] (patterns marked)
      → (p : PlainPattern) → zones_at pattern_order p trie ≡ zones_at key_order (pattern_key p) es
  zones_listed es marked trie is same made p =
      let all : ArePatternKeys (map in_trie es) = all_in_trie IsPatternKey es is.keys in
      ap (λ t. zones_at pattern_order p t) (made ∙ ap (λ m. with_all pattern_order [] (patterns m)) same)
      ∙ ap zones_in (filled pattern_total key_total pattern_in p (pattern_key p) [] (map in_trie es) (in_trie_sorted key_order es is.ordered) (alike p (map in_trie es) all) ∙ only (lookup (is_at (key_order (pattern_key p))) (map in_trie es)))
      ∙ zones_in_trie (is_at (key_order (pattern_key p))) es

  found_ranked : (p : PlainPattern) (es : List (PlainPattern × Standing)) → lookup (is_at (pattern_order p)) (ranked es) ≡ lookup (is_at (pattern_order p)) es
  found_ranked p [] = refl
  found_ranked p (e ∷ es) = lookup-insert_entry pattern_total p e.0 e.1 (ranked es) ∙ ap (λ found. cond (is_at (pattern_order p) e.0) (Some e.1) found) (found_ranked p es)

  -- the zones at a pattern of a trie whose entries these are
  pub zones_standing : (es : List (List ℕ × Standing)) (trie : List (PlainPattern × Standing)) → IsNameTrie es → ranked_patterns es ≡ trie
      → (p : PlainPattern) → zones_at key_order (pattern_key p) es ≡ zones_at pattern_order p trie
  zones_standing es trie is same p =
      ap zones_in (sym (found_ranked p (patterns es) ∙ found_placed pattern_total key_total pattern_in p (pattern_key p) es (alike p es is.keys)))
      ∙ ap (λ t. zones_at pattern_order p t) same

-- ---- prefixes

same_filling : (done es : List (PlainPrefix × Standing)) → with_prefixes done es ≡ with_all prefix_order done es
same_filling done [] = refl
same_filling done (e ∷ es) = same_filling (insert_entry prefix_order done e.0 e.1) es

-- the zones at a prefix of a trie that is made of entries
pub zones_of_prefixes : (es marked trie : List (PlainPrefix × Standing)) → IsStrictlySortedBy prefix_order (keys_of es) → marked ≡ map in_trie es → trie ≡ with_prefixes [] marked
    → (p : PlainPrefix) → zones_at prefix_order p trie ≡ zones_at prefix_order p es
zones_of_prefixes es marked trie sorted same made p =
    ap (λ t. zones_at prefix_order p t) (made ∙ ap (λ m. with_prefixes [] m) same ∙ same_filling [] (map in_trie es) ∙ with_sorted prefix_order prefix_order_total [] (map in_trie es) (in_trie_sorted prefix_order es sorted))
    ∙ zones_in_trie (is_at (prefix_order p)) es
