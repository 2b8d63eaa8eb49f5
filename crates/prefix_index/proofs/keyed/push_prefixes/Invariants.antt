use Rattle.std.proofs.Common.{◌≡◌, ◌++◌, map, take}
use Rattle.prefix_index.proofs.keyed.push_prefixes.Given as goal

abbrev pub invariant-loop-entry : goal.invariant-loop-entry
invariant-loop-entry g l = l.entries.items ≡ l.initial.entries.items ++ map (λ e. (g.K.Key.to e.0, e.1)) (take l.entry-index l.keyed)
