-- Runs of zero words, by their places in the list of the words of an address.
use Rattle.std.specs.Prelude.{◌≡◌, ◌≢◌, ◌≤◌, ◌<◌, ◌+◌, ◌⊎◌, ℕ, List, ◌∷◌, ◌++◌, length, map, take, drop, codes, slice_index}
use Rattle.dns_name.specs.Labels.{Label}
use Rattle.trigger_codec.specs.Canonical.{Run, hexadecimal}

-- The words from the run's place on, so many, are zero. The run is not empty, and can't be longer at
-- either end: no zero word stands directly before it or behind it.
pub record IsRun (words : List ℕ) (run : Run) : Type 0 where
  pub some : 1 ≤ run.long
  pub within : run.place + run.long ≤ length words
  pub zeros : (place : ℕ) → run.place ≤ place → place < run.place + run.long →
      slice_index words place ≡ 0
  pub before : (place : ℕ) → place + 1 ≡ run.place → slice_index words place ≢ 0
  pub behind : run.place + run.long < length words → slice_index words (run.place + run.long) ≢ 0

-- the run is longer than the other, or as long and stands no later
abbrev pub IsChosenOver : Run → Run → Type 0
IsChosenOver run other =
    (other.long < run.long) ⊎ ((other.long ≡ run.long) × (run.place ≤ other.place))

-- the longest run, and the first of those that are as long
pub record IsFirstLongest (words : List ℕ) (run : Run) : Type 0 where
  pub is_run : IsRun words run
  pub is_chosen : (other : Run) → IsRun words other → IsChosenOver run other

-- these are the labels of the words where the first longest run has two words or more: `zz` stands for it
pub record HasZz (words : List ℕ) (labels : List Label) : Type 0 where
  pub run : Run
  pub is_longest : IsFirstLongest words run
  pub two : 2 ≤ run.long
  pub are_labels : labels
      ≡ map hexadecimal (take run.place words)
      ++ codes "zz" ∷ map hexadecimal (drop (run.place + run.long) words)

-- these are the labels of the words where no run has two words: each is written
pub record HasNoZz (words : List ℕ) (labels : List Label) : Type 0 where
  pub short : (run : Run) → IsRun words run → run.long < 2
  pub are_labels : labels ≡ map hexadecimal words
