-- What a walk through the nodes looks for, and how deep nodes stand.
use Rattle.std.specs.Prelude.{◌≡◌, ◌<◌, ℕ, Bool, false, ◌&&◌, cond, Option, Some, None, List}
use Rattle.std.specs.List.{list_any}
use Rattle.trie_keys.specs.declared.marked.Marked.{Marked}
use Rattle.trie_keys.specs.Keys.{Keys, begins}
use Rattle.trie_keys.specs.Scan.{last_where}
use Rattle.prefix_index.specs.Nodes.{Sub}

abbrev pub depth_of : {K : Type 0} → Keys K → Option K → ℕ
depth_of keys None = 0
depth_of keys (Some key) = keys.len key

-- how many symbols the key of a node has
abbrev pub depth : {K V : Type 0} → Keys K → Sub K V → ℕ
depth keys sub = depth_of keys sub.key

-- where both keys have this symbol, it isn't the same
abbrev pub DifferAt : {K : Type 0} → Keys K → ℕ → K → K → Type 0
DifferAt keys place a b = place < keys.len a → place < keys.len b → keys.symbol a place ≡ keys.symbol b place → ⊥

-- whether look-ups stop at the value
abbrev pub acts_at : {N M : Type 0} → (M → Bool) → Marked N M → Bool
acts_at acts v = acts v.mark

-- whether the key begins with that of the entry, and look-ups stop at the entry
abbrev pub is_hit : {K V : Type 0} → Keys K → (V → Bool) → K → K × V → Bool
is_hit keys acts key e = begins keys e.0 key && acts e.1

-- the last entry of the longest key with which the key begins, of those at which look-ups stop
abbrev pub last_hit : {K V : Type 0} → Keys K → (V → Bool) → K → List (K × V) → Option (K × V)
last_hit keys acts key entries = last_where (is_hit keys acts key) entries

-- the entry of a node itself, if look-ups stop at it
abbrev pub own_hit : {K V : Type 0} → (V → Bool) → K → Option V → Option (K × V)
own_hit acts key None = None
own_hit acts key (Some v) = cond (acts v) (Some (key, v)) None

-- whether the number is in the set that is the value
abbrev pub has_at : {N M : Type 0} → (N → ℕ → Bool) → ℕ → Marked N M → Bool
has_at has number v = has v.value number

-- whether a node has a value, and the number is in its set
abbrev pub own_has : {N M : Type 0} → (N → ℕ → Bool) → ℕ → Option (Marked N M) → Bool
own_has has number None = false
own_has has number (Some v) = has v.value number

-- whether the number is in the set at one of the keys with which the key begins
abbrev pub any_has : {K N M : Type 0} → Keys K → (N → ℕ → Bool) → K → ℕ → List (K × Marked N M) → Bool
any_has keys has key number entries = list_any (is_hit keys (has_at has number) key) entries
