use Rattle.std.proofs.Common.{arith}
use Rattle.octet_trie.proofs.Storing.{stored_at, stored_len}
use Rattle.octet_trie.proofs.store.Store.get.Goals as goal

pub get-requires : goal.get-requires
get-requires g c = omega (arith, c.requires, stored_len g.M.Mark.present _ _ _ c.self.view_is)

pub returns : goal.returns
returns g c = stored_at g.M.Mark.present _ _ _ _ _ c.self.invariant c.self.view_is c.get.ensures
