-- Entries by prefix as entries by key, in the order of the keys.
use Rattle.std.specs.Prelude.{◌≡◌, ◌≤◌, true, List, Option}
use Rattle.std.specs.List.{AllByRecursion, filter_map}
use Rattle.std.specs.List.Sorted.{IsPermutation}
use Rattle.std.specs.Option.{option_map}
use Rattle.trie_keys.specs.Keys.{Keys}
use Rattle.trie_keys.specs.Sorting.{AreEntries}

-- the entry by key, if the prefix has one
abbrev pub keyed : {P K V : Type 0} → (P → Option K) → P × V → Option (K × V)
keyed from e = option_map (λ key. (key, e.1)) (from e.0)

abbrev pub keyed_by : {P K V : Type 0} → (P → Option K) → List (P × V) → List (K × V)
keyed_by from entries = filter_map (keyed from) entries

-- a key that is spelled as it should be, and has some symbols
pub record IsKey {K : Type 0} (keys : Keys K) (key : K) : Type 0 where
  pub valid : keys.valid key ≡ true
  pub some : 1 ≤ keys.len key

abbrev pub AreKeys : {K V : Type 0} → Keys K → List (K × V) → Type 0
AreKeys keys entries = AllByRecursion (λ e. IsKey keys e.0) entries

-- the entries whose prefixes have a key, in the order of the keys, each once
pub record IsMadeOf {P K V : Type 0} (keys : Keys K) (from : P → Option K) (entries : List (P × V)) (made : List (K × V)) : Type 0 where
  pub permutation : IsPermutation (keyed_by from entries) made
  pub are : AreEntries keys made
  pub each : AreKeys keys made
