use Rattle.std.proofs.Common.{◌≡◌, ◌++◌, take}
use Rattle.octet_trie.specs.Copies.{stands_all}
use Rattle.octet_trie.proofs.rebuild.push_all.Given as goal

abbrev pub invariant-loop-node : goal.invariant-loop-node
invariant-loop-node g l = l.into ≡ record l.initial.into { subs = l.initial.into.subs ++ stands_all g.M.Mark.present l.initial.into (take l.node-index l.nodes.items) }
