use Rattle.std.proofs.Common.{◌≡◌, ◌++◌, map, take}
use Rattle.zone_index.specs.Changes.{live_triggers}
use Rattle.zone_rows.specs.Stored.{plain_row}
use Rattle.zone_index.proofs.changes.push_triggers.Given as goal

abbrev pub invariant-loop-at : goal.invariant-loop-at
invariant-loop-at l = l.triggers.items ≡ l.initial.triggers.items ++ live_triggers l.origin (map plain_row (take l.at l.rows.rows))
