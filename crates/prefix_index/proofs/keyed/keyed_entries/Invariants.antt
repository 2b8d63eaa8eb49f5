use Rattle.std.proofs.Common.{◌≡◌, take}
use Rattle.prefix_index.specs.Made.{AreKeys, keyed_by}
use Rattle.prefix_index.proofs.keyed.keyed_entries.Given as goal

abbrev pub invariant-loop-entry : goal.invariant-loop-entry
invariant-loop-entry g l = (l.keyed.items ≡ keyed_by g.K.Key.from (take l.entry-index l.entries)) × AreKeys g.K.Key.keys l.keyed.items
