-- Entries in the order of their keys, and stretches of them.
use Rattle.std.specs.Prelude.{◌≡◌, ℕ, ◌<◌, ◌≤◌, Bool, true, List, length, map, slice_index, slice_index_or, take, drop}
use Rattle.std.specs.Cmp.Lexicographic.{slice_cmp}
use Rattle.std.specs.List.{AllByRecursion}
use Rattle.std.specs.List.Sorted.{IsStrictlySortedBy}
use Rattle.std.specs.Map.{keys_of}
use Rattle.std.specs.Ordering.{nat_cmp}
use Rattle.octet_trie.specs.Trie.{found_entry}
use Rattle.octet_trie.specs.declared.trie.OctetFound.{OctetFound}
use Rattle.trie_keys.specs.declared.marked.Marked.{Marked}

module _ {N M : Type 0} where
  -- each key has at most 254 octets
  abbrev pub AreShort : List (OctetFound N M) → Type 0
  AreShort es = AllByRecursion (λ e. length e.key.now ≤ 254) es

  -- each mark says that there is a value
  abbrev pub ArePresent : (M → Bool) → List (OctetFound N M) → Type 0
  ArePresent present es = AllByRecursion (λ e. present e.value.mark ≡ true) es

  -- they stand in the order of their keys, each key once
  abbrev pub AreInOrder : List (OctetFound N M) → Type 0
  AreInOrder es = IsStrictlySortedBy (slice_cmp nat_cmp) (keys_of (map found_entry es))

  -- the octets of each key begin with some
  abbrev pub AllBeginWith : List ℕ → List (OctetFound N M) → Type 0
  AllBeginWith top es = AllByRecursion (λ e. take (length top) e.key.now ≡ top) es

-- the entries from a number on
abbrev pub entries_from : {N M : Type 0} → ℕ → List (OctetFound N M) → List (List ℕ × Marked N M)
entries_from number es = map found_entry (drop number es)

-- all that is known of entries of which nodes are made
pub record AreListed {N M : Type 0} (present : M → Bool) (es : List (OctetFound N M)) : Type 0 where
  pub short : AreShort es
  pub present_all : ArePresent present es
  pub in_order : AreInOrder es

-- the octet stands at the place of the key
pub record HasOctet (key : List ℕ) (place octet : ℕ) : Type 0 where
  pub longer : place < length key
  pub same : slice_index key place ≡ octet

-- the entry of the number is there, and its key has the octet at the place
pub record HasOctetAt {N M : Type 0} (es : List (OctetFound N M)) (number place octet : ℕ) : Type 0 where
  pub within : number < length es
  pub here : (d : OctetFound N M) → HasOctet (slice_index_or es number d).key.now place octet
