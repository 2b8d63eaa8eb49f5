-- Entries that are put into others, one after the other.
use Rattle.std.proofs.Common.{List, [], ◌∷◌}
use Rattle.std.specs.BTreeMap.{insert_entry}
use Rattle.std.specs.declared.cmp.Ordering.{Ordering}

-- the entries with others, of which a later one of a key counts in place of an earlier one
abbrev pub with_all : {K V : Type 0} → (K → K → Ordering) → List (K × V) → List (K × V) → List (K × V)
with_all order entries [] = entries
with_all order entries (e ∷ es) = with_all order (insert_entry order entries e.0 e.1) es
