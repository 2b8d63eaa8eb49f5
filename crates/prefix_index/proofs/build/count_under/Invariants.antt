use Rattle.std.proofs.Common.{◌≡◌, cond, take}
use Rattle.std.specs.List.{AllByRecursion}
use Rattle.trie_keys.specs.Keys.{Under}
use Rattle.prefix_index.proofs.build.count_under.Given as goal

abbrev pub invariant-loop-entry : goal.invariant-loop-entry
invariant-loop-entry g l = (l.count ≡ l.entry-index) × AllByRecursion (λ e. Under g.K.Key.keys l.top (cond l.one 1 0) e.0) (take l.entry-index l.entries)
