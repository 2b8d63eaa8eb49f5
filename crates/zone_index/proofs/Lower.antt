-- Patterns of names in lower case after an edit.
use Rattle.std.proofs.Common.{◌≡◌, ℕ, ◌+◌, Bool, true, false, cond, List, [], ◌∷◌, Option, sym, subst}
use Rattle.std.specs.BTreeMap.{insert_entry, is_at}
use Rattle.std.specs.Cmp.{IsTotalOrder, on_total}
use Rattle.std.specs.List.{AllByRecursion}
use Rattle.std.specs.Map.{keys_of, lookup, remove_entry}
use Rattle.std.specs.Ordering.{match_ordering}
use Rattle.std.specs.declared.cmp.Ordering.{Ordering}
use Rattle.std.specs.declared.cmp.Ordering.TheVariants.{Less, Equal, Greater}
use Rattle.dns_name.specs.Alike.{PlainPattern}
use Rattle.qname_index.specs.Best.{pattern_order}
use Rattle.qname_index.proofs.Rank.{rank_of, rank_total}
use Rattle.trie_keys.specs.declared.marked.Marked.{Marked}
use Rattle.trigger_codec.specs.Bases.{IsPattern}
use Rattle.zone_index.proofs.Counting.{counted_none, counted_with, counted_without}
use Rattle.zone_index.specs.Counted.{ArePatterns, acting_in, one_acting}
use Rattle.zone_index.specs.declared.kept.Kept.{Kept}

pub pattern_total : IsTotalOrder pattern_order
pattern_total = on_total rank_of rank_total

module _ {K V : Type 0} (P : K → Type 0) where
  pick : (o : Ordering) (a b c : List (K × V)) → AllByRecursion P (keys_of a) → AllByRecursion P (keys_of b) → AllByRecursion P (keys_of c) → AllByRecursion P (keys_of (match_ordering o a b c))
  pick Less a b c p q r = p
  pick Equal a b c p q r = q
  pick Greater a b c p q r = r

  pub keys_inserted : (order : K → K → Ordering) (k : K) (v : V) (es : List (K × V)) → P k → AllByRecursion P (keys_of es) → AllByRecursion P (keys_of (insert_entry order es k v))
  keys_inserted order k v [] here all = (here, tt)
  keys_inserted order k v (e ∷ es) here all =
      pick (order k e.0) ((k, v) ∷ e ∷ es) ((e.0, v) ∷ es) (e ∷ insert_entry order es k v)
      (here, all) all (all.0, keys_inserted order k v es here all.1)

  keep_by : (b : Bool) (a c : List (K × V)) → AllByRecursion P (keys_of a) → AllByRecursion P (keys_of c) → AllByRecursion P (keys_of (cond b a c))
  keep_by true a c p q = p
  keep_by false a c p q = q

  pub keys_removed : (test : K → Bool) (es : List (K × V)) → AllByRecursion P (keys_of es) → AllByRecursion P (keys_of (remove_entry test es))
  keys_removed test [] all = tt
  keys_removed test (e ∷ es) all = keep_by (test e.0) es (e ∷ remove_entry test es) all.1 (all.0, keys_removed test es all.1)

pub patterns_none : (made : List (PlainPattern × Marked ℕ Kept)) → made ≡ [] → ArePatterns made 0
patterns_none made e = record {
  counted = counted_none pattern_order made e;
  lower = subst (λ ms. AllByRecursion IsPattern (keys_of ms)) (sym e) tt;
}

pub patterns_with : (k : PlainPattern) (v : Marked ℕ Kept) (es whole made : List (PlainPattern × Marked ℕ Kept)) (count new : ℕ) (old : Option (Marked ℕ Kept)) → ArePatterns es count → es ≡ whole → IsPattern k
    → old ≡ lookup (is_at (pattern_order k)) whole → new + acting_in old ≡ count + one_acting v → made ≡ insert_entry pattern_order es k v → ArePatterns made new
patterns_with k v es whole made count new old are e is h n m = record {
  counted = counted_with pattern_order pattern_total k v es whole made count new old are.counted e h n m;
  lower = subst (λ ms. AllByRecursion IsPattern (keys_of ms)) (sym m) (keys_inserted IsPattern pattern_order k v es is are.lower);
}

pub patterns_without : (k : PlainPattern) (es whole made : List (PlainPattern × Marked ℕ Kept)) (count new : ℕ) (old : Option (Marked ℕ Kept)) → ArePatterns es count → es ≡ whole
    → old ≡ lookup (is_at (pattern_order k)) whole → new + acting_in old ≡ count → made ≡ remove_entry (is_at (pattern_order k)) es → ArePatterns made new
patterns_without k es whole made count new old are e h n m = record {
  counted = counted_without pattern_order pattern_total k es whole made count new old are.counted e h n m;
  lower = subst (λ ms. AllByRecursion IsPattern (keys_of ms)) (sym m) (keys_removed IsPattern (is_at (pattern_order k)) es are.lower);
}
