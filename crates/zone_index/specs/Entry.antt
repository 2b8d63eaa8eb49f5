-- What stands at a place.
use Rattle.std.specs.Prelude.{ℕ, List}
use Rattle.zone_index.specs.Does.{does_seen}
use Rattle.zone_index.specs.declared.does.Does.{Does}
use Rattle.zone_index.specs.declared.entry.EntryRef.{EntryRef}

-- what stands at a place: the numbers of its rows, and what they do
pub record PlainEntry : Type 0 where
  pub numbers : List ℕ
  pub does : Does

abbrev pub entry_seen : EntryRef → PlainEntry
entry_seen entry = record { numbers = entry.numbers; does = does_seen entry.does }
