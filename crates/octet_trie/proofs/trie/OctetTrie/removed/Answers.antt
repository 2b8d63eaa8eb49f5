use Rattle.std.proofs.Common.{sym, ◌∙◌}
use Rattle.octet_trie.proofs.Tries.{none_taken, none_there}
use Rattle.octet_trie.proofs.trie.OctetTrie.removed.Goals as goal

pub returns-then-is_none : goal.returns-then-is_none
returns-then-is_none g c = sym (none_taken _ _ (sym c.get.ensures.value ∙ none_there c.get.result c.if-is_none.ensures))
