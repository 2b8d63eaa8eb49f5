use Rattle.std.proofs.Common.{◌+◌, take}
use Rattle.octet_trie.specs.Copies.{AreCopied}
use Rattle.octet_trie.specs.Nodes.{kids_of}
use Rattle.octet_trie.specs.Plain.{plain}
use Rattle.octet_trie.proofs.rebuild.+copy_node.Given as goal

abbrev pub decreases-copy_node : goal.decreases-copy_node
decreases-copy_node g l = l.node.now.kids + l.node.now.count

abbrev pub invariant-loop-place : goal.invariant-loop-place
invariant-loop-place g l = AreCopied g.M.Mark.present l.initial.into l.into l.kids.items (take l.place (kids_of l.source.subs (plain g.M.Mark.present l.node)))
