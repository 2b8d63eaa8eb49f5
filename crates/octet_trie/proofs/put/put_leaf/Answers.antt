use Rattle.std.proofs.Common.{◌<◌, get_or, arith}
use Rattle.octet_trie.specs.Plain.{plain}
use Rattle.octet_trie.proofs.Putting.{put_new, told}
use Rattle.octet_trie.proofs.put.put_leaf.Goals as goal

pub returns : goal.returns
returns g c =
    let p = g.M.Mark.present in
    let small : get_or c.args.octets.now c.args.node.now.len 0 < 256 = omega (arith, c.type_inv.octets c.args.node.now.len) in
    told c.rekid.result _ _ c.rekid.ensures (λ m r. put_new c.args.store.now c.leaf.new.store c.rekid.new.store (plain p c.args.node.now) (plain p c.in_ok-leaf.leaf) (plain p m) c.args.octets.now c.args.wild c.args.value c.args.place c.requires.node c.requires.short small c.requires.goes c.requires.gap c.in_ok-leaf.ensures r)
