-- Nodes as they are kept, and as definitions see them.
use Rattle.std.proofs.Common.{◌≡◌, ℕ, zero, suc, Bool, true, false, cond, List, [], ◌∷◌, ◌++◌, length, map, Some, None, refl, sym, ap, subst, arith, slice_get}
use Rattle.trie_keys.specs.declared.marked.Marked.{Marked}
use Rattle.prefix_index.specs.PlainNode.{PlainNode, value_of}
use Rattle.prefix_index.specs.Nodes.{AreWell, AreNodes, stands, Sub}
use Rattle.prefix_index.specs.Trie.{IsTrie}
use Rattle.prefix_index.specs.Nodes.{Put, Taken}
use Rattle.prefix_index.proofs.Numbers.{of_none}
use Rattle.trie_keys.specs.Keys.{Keys, KeyLaws}
use Rattle.trie_keys.specs.Sorting.{AreEntries}
use Rattle.trie_keys.proofs.Sorting.{none_are_entries, entries_inserted, entries_removed}

some_same : {A : Type 0} (x y : A) → Some x ≡ Some y → x ≡ y
some_same x y e = cc e

module _ {X Y : Type 0} (f : X → Y) where
  pub map_length : (xs : List X) → length (map f xs) ≡ length xs
  map_length [] = refl
  map_length (x ∷ xs) = omega (arith, map_length xs)

  pub map_push : (xs : List X) (x : X) → map f (xs ++ x ∷ []) ≡ map f xs ++ f x ∷ []
  map_push [] x = refl
  map_push (y ∷ ys) x = ap (λ zs. f y ∷ zs) (map_push ys x)

  pub map_get : (xs : List X) (place : ℕ) (x : X) → slice_get xs place ≡ Some x → slice_get (map f xs) place ≡ Some (f x)
  map_get [] place x e = cc e
  map_get (y ∷ ys) zero x e = ap (λ z. Some (f z)) (some_same y x e)
  map_get (y ∷ ys) (suc place) x e = map_get ys place x e

module _ {N M : Type 0} (present : M → Bool) where
  pub there : (v : Marked N M) → present v.mark ≡ true → value_of present v ≡ Some v
  there v e = ap (λ b. cond b (Some v) None) e

  pub absent : (v : Marked N M) → present v.mark ≡ false → value_of present v ≡ None
  absent v e = ap (λ b. cond b (Some v) None) e

module _ {K V : Type 0} (keys : Keys K) (laws : KeyLaws keys) where
  pub empty_trie : (nodes : List (PlainNode K V)) → nodes ≡ [] → IsTrie keys nodes 0
  unfolding AreNodes
  empty_trie nodes e =
      let well : AreWell {V = V} keys [] = record { each = tt } in
      record {
        well = subst (λ ns. AreWell keys ns) (sym e) well;
        within = omega arith;
        entries = subst (λ (s : Sub K V). AreEntries keys s.list) (sym (of_none keys nodes)) (none_are_entries keys laws);
      }

  pub put_trie : (old new : List (PlainNode K V)) (at number : ℕ) (key : K) (v : V) → keys.valid key ≡ true → IsTrie keys old at → Put keys old new at key v number → IsTrie keys new number
  put_trie old new at number key v valid is p = record {
    well = p.extends.well;
    within = p.within;
    entries = subst (λ es. AreEntries keys es) (sym p.list) (entries_inserted keys laws key v (stands keys old at).list valid is.entries);
  }

  pub taken_trie : (old new : List (PlainNode K V)) (at number : ℕ) (key : K) → IsTrie keys old at → Taken keys old new at key number → IsTrie keys new number
  taken_trie old new at number key is p = record {
    well = p.extends.well;
    within = p.within;
    entries = subst (λ es. AreEntries keys es) (sym p.list) (entries_removed keys laws key (stands keys old at).list is.entries);
  }
