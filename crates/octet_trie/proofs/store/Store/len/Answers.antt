use Rattle.std.proofs.Common.{◌∙◌}
use Rattle.octet_trie.proofs.Storing.{stored_len}
use Rattle.octet_trie.proofs.store.Store.len.Goals as goal

pub returns : goal.returns
returns g c = record { len = c.len.ensures.len ∙ stored_len g.M.Mark.present _ _ _ c.self.view_is }
