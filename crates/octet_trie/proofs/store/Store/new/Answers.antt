use Rattle.octet_trie.proofs.Storing.{stored_none, stored_new}
use Rattle.octet_trie.proofs.store.Store.new.Goals as goal

pub invariant_of-result : goal.invariant_of-result
invariant_of-result g c = stored_none g.M.Mark.present _ _ c.new-2.ensures

pub returns : goal.returns
returns g c = stored_new g.M.Mark.present _ _ c.new.ensures c.new-2.ensures
