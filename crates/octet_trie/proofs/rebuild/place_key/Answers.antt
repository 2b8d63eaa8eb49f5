use Rattle.std.proofs.Common.{◌<◌, length, arith}
use Rattle.std.proofs.lemmas.Bool.Decides.{nat_tests}
use Rattle.octet_trie.proofs.Copying.{key_of_kid}
use Rattle.octet_trie.proofs.rebuild.place_key.Goals as goal

pub returns-else-is_empty : goal.returns-else-is_empty
returns-else-is_empty g c =
    let p = g.M.Mark.present in
    let kids = c.args.kids.now in
    let some : 0 < length kids.items = grind (arith, nat_tests, c.is_empty.ensures, c.if-is_empty.false, kids.ok) in
    key_of_kid p c.args.into.now c.args.name.now kids.items c.index.result.now c.requires.nodes c.requires.under some c.index.ensures
