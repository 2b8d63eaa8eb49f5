use Rattle.std.proofs.Common.{◌≡◌, ◌++◌, ◌≤◌, length}
use Rattle.qname_index.specs.Key.{name_key}
use Rattle.qname_index.proofs.key.Key.put.Given as goal

abbrev pub invariant-loop-label : goal.invariant-loop-label
invariant-loop-label l = (name_key l.name ≡ name_key l.labels ++ l.self) × (length (name_key l.name) ≤ 254)

abbrev pub decreases-loop-label : goal.decreases-loop-label
decreases-loop-label l = length l.labels
