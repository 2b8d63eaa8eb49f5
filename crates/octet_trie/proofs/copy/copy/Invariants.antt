use Rattle.std.proofs.Common.{◌≡◌, ◌++◌, ◌-◌, take, drop}
use Rattle.octet_trie.proofs.copy.copy.Given as goal

abbrev pub invariant-loop-number : goal.invariant-loop-number
invariant-loop-number g l = l.store ≡ record l.initial.store { subs = l.initial.store.subs ++ take (l.number - l.first) (drop l.first l.initial.store.subs) }
