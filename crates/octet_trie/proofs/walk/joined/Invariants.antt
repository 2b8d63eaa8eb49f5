use Rattle.std.proofs.Common.{◌≡◌, ℕ, ◌+◌, ◌≤◌, ◌&&◌, ◌||◌, length, take}
use Rattle.std.specs.List.{list_any}
use Rattle.octet_trie.specs.Fits.{fits}
use Rattle.octet_trie.specs.Nodes.{IsNode, name_of, stands}
use Rattle.octet_trie.specs.Plain.{plain}
use Rattle.octet_trie.proofs.walk.joined.Given as goal

abbrev pub invariant-loop-node : goal.invariant-loop-node
invariant-loop-node g l =
    let n = plain g.M.Mark.present l.node in
    IsNode l.store n
    × (l.from ≤ l.node.len)
    × (l.from ≤ length l.octets)
    × (take l.from (name_of l.store.octets n) ≡ take l.from l.octets)
    × ((x : ℕ) → (list_any (λ e. fits l.octets e.0 && g.N.NumberSet.has e.1.value x) (stands l.store n).list || g.N.NumberSet.has l.found x)
    ≡ list_any (λ e. fits l.octets e.0 && g.N.NumberSet.has e.1.value x) (stands l.store (plain g.M.Mark.present l.root)).list)
    × (l.steps + l.root.len ≤ l.initial.steps + l.node.len)

abbrev pub decreases-loop-node : goal.decreases-loop-node
decreases-loop-node g l = l.node.kids + l.node.count
