use Rattle.std.proofs.Common.{◌<◌, ◌≤◌, ◌-◌, take, drop}
use Rattle.std.specs.List.{AllByRecursion}
use Rattle.octet_trie.specs.Nodes.{kids_of}
use Rattle.octet_trie.specs.Plain.{plain}
use Rattle.octet_trie.proofs.find.find_kid.Given as goal

abbrev pub invariant-loop-low : goal.invariant-loop-low
invariant-loop-low g l =
    let kids = kids_of l.store.subs (plain g.M.Mark.present l.node) in
    (l.low ≤ l.high)
    × (l.high ≤ l.node.count)
    × AllByRecursion (λ k. k.symbol < l.symbol) (take l.low kids)
    × AllByRecursion (λ k. l.symbol < k.symbol) (drop l.high kids)

abbrev pub decreases-loop-low : goal.decreases-loop-low
decreases-loop-low g l = l.high - l.low
