use Rattle.std.proofs.Common.{◌≡◌, ◌+◌, ◌≤◌, ◌&&◌, length, take}
use Rattle.std.specs.Prelude.{IfSome}
use Rattle.std.specs.Option.{option_map}
use Rattle.packed_lists.specs.Octets.{StandsWhole}
use Rattle.trie_keys.specs.Scan.{last_where, option_else}
use Rattle.octet_trie.specs.Fits.{entry_of, fits}
use Rattle.octet_trie.specs.Nodes.{IsNode, name_of, stands}
use Rattle.octet_trie.specs.Plain.{plain}
use Rattle.octet_trie.proofs.walk.best.Given as goal

abbrev pub invariant-loop-node : goal.invariant-loop-node
invariant-loop-node g l =
    let n = plain g.M.Mark.present l.node in
    let scan = last_where (λ e. fits l.octets e.0 && g.M.Mark.acts e.1.mark) in
    IsNode l.store n
    × (l.from ≤ l.node.len)
    × (l.from ≤ length l.octets)
    × (take l.from (name_of l.store.octets n) ≡ take l.from l.octets)
    × IfSome l.found (λ h. StandsWhole l.store.octets h.key h.len)
    × (option_else (scan (stands l.store n).list) (option_map (entry_of l.store.octets) l.found)
    ≡ scan (stands l.store (plain g.M.Mark.present l.root)).list)
    × (l.steps + l.root.len ≤ l.initial.steps + l.node.len)

abbrev pub decreases-loop-node : goal.decreases-loop-node
decreases-loop-node g l = l.node.kids + l.node.count
