-- Two lists of entries in the order of their keys, as one list.
use Rattle.std.specs.Prelude.{bit_or, true, List, [], ◌∷◌}
use Rattle.std.specs.Ordering.{match_ordering}
use Rattle.std.specs.declared.cmp.Ordering.{Ordering}
use Rattle.summary_index.specs.Summary.{Standing}

-- the zones of both
abbrev pub united : Standing → Standing → Standing
united a b = record { value = bit_or a.value b.value; mark = true }

module _ {K V : Type 0} (order : K → K → Ordering) (both : V → V → V) where
  -- an entry, with others in order, where `rest` merges with them what comes behind the entry
  abbrev pub merged_with : K × V → (List (K × V) → List (K × V)) → List (K × V) → List (K × V)
  merged_with x rest [] = x ∷ rest []
  merged_with x rest (y ∷ ys) = match_ordering (order x.0 y.0) (x ∷ rest (y ∷ ys)) ((x.0, both x.1 y.1) ∷ rest ys) (y ∷ merged_with x rest ys)

  -- the entries of both in order, and one where both have an entry at a key
  abbrev pub merged : List (K × V) → List (K × V) → List (K × V)
  merged [] ys = ys
  merged (x ∷ xs) ys = merged_with x (merged xs) ys

-- the first of two entries, or one for both, by how their keys stand to each other
abbrev pub next_of : {K V : Type 0} → (V → V → V) → Ordering → K × V → K × V → K × V
next_of both order x y = match_ordering order x (x.0, both x.1 y.1) y
