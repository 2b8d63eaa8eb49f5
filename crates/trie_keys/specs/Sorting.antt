-- Entries whose keys are valid and stand in their order, and that they stay so.
use Rattle.std.proofs.Common.{◌≡◌, true, List}
use Rattle.std.specs.List.{AllByRecursion}
use Rattle.std.specs.List.Sorted.{IsStrictlySortedBy}
use Rattle.std.specs.Map.{keys_of}
use Rattle.trie_keys.specs.Keys.{Keys}

-- the keys are valid, and stand in their order, each once
pub record AreEntries {K V : Type 0} (keys : Keys K) (es : List (K × V)) : Type 0 where
  pub valid : AllByRecursion (λ e. keys.valid e.0 ≡ true) es
  pub sorted : IsStrictlySortedBy keys.order (keys_of es)
