use Rattle.std.proofs.Common.{sym, ◌∙◌}
use Rattle.std.proofs.lemmas.List.{take_all}
use Rattle.octet_trie.specs.Plain.{plain}
use Rattle.octet_trie.proofs.Putting.{put_whole}
use Rattle.octet_trie.proofs.put.put_apart.Goals as goal

pub returns-then-len-octets : goal.returns-then-len-octets
returns-then-len-octets g c =
    let p = g.M.Mark.present in
    let all = take_all c.args.node.now.len c.args.octets.now c.if-len-octets.true in
    put_whole c.args.store.now (plain p c.args.node.now) (plain p c.with_value.result) c.args.octets.now c.args.wild c.args.value c.requires.node (sym c.requires.begins ∙ all) c.with_value.ensures
