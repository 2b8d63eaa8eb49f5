-- Which zones are marked, so that all of them is asked for next; the first of the list is zone 1.
use Rattle.std.specs.Prelude.{ℕ, ◌-◌, Bool, false, List, map, slice_set}
use Rattle.std.specs.List.{slice_index_or}
use Rattle.dns_name.specs.Labels.{Name}

-- no zone of these origins is marked
abbrev pub no_marks : List Name → List Bool
no_marks origins = map (λ origin. false) origins

-- The zone of this number, of which 1 is the first, is marked: all of it is asked for next.
abbrev pub mark_at : List Bool → ℕ → Bool
mark_at marks number = slice_index_or marks (number - 1) false

-- The marks with that of the zone of this number set or cleared.
abbrev pub with_mark : List Bool → ℕ → Bool → List Bool
with_mark marks number marked = slice_set marks (number - 1) marked
