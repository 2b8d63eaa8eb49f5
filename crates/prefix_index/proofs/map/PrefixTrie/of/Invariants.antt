use Rattle.std.proofs.Common.{◌≡◌, [], drop}
use Rattle.prefix_index.specs.Ranked.{with_all}
use Rattle.prefix_index.proofs.map.PrefixTrie.of.Given as goal

abbrev pub invariant-loop-entry : goal.invariant-loop-entry
invariant-loop-entry g l = with_all l.trie (drop l.entry-index l.entries) ≡ with_all [] l.entries
