use Rattle.std.proofs.Common.{◌≡◌, ◌+◌, ◌++◌, map, take}
use Rattle.octet_trie.specs.Nodes.{joined, kids_of}
use Rattle.octet_trie.specs.Plain.{plain}
use Rattle.octet_trie.specs.Trie.{found_entry}
use Rattle.octet_trie.proofs.collect.+collect.Given as goal

abbrev pub decreases-collect : goal.decreases-collect
decreases-collect g l = l.node.now.kids + l.node.now.count

abbrev pub invariant-loop-place : goal.invariant-loop-place
invariant-loop-place g l = map found_entry l.out.items ≡ map found_entry l.initial.out.items ++ joined (take l.place (kids_of l.store.subs (plain g.M.Mark.present l.node)))
