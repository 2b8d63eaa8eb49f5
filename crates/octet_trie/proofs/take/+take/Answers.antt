use Rattle.octet_trie.specs.Plain.{plain}
use Rattle.octet_trie.proofs.Putting.{told, common_with, same_key, key_under}
use Rattle.octet_trie.proofs.Taking.{take_apart, take_gap, take_whole, take_below}
use Rattle.octet_trie.proofs.take.+take.Goals as goal

pub returns-then-same-node : goal.returns-then-same-node
returns-then-same-node g t c =
    let p = g.M.Mark.present in
    let n = plain p c.args.node.now in
    let common = common_with c.args.store.now n c.name.result.now c.args.octets.now c.common-same.result c.name.ensures c.common-same.ensures in
    take_apart c.args.store.now n c.args.octets.now c.args.wild c.common-same.result c.requires.node common c.if-same-node.true c.requires.short

pub returns-in_ok-kid-in-Ok : goal.returns-in_ok-kid-in-Ok
returns-in_ok-kid-in-Ok g t c =
    let p = g.M.Mark.present in
    let n = plain p c.args.node.now in
    let common = common_with c.args.store.now n c.name.result.now c.args.octets.now c.common-same.result c.name.ensures c.common-same.ensures in
    let u = key_under c.args.store.now n c.args.octets.now c.args.wild c.common-same.result c.requires.node common c.if-same-node.false c.if-same-octets.true c.requires.short in
    told c.rekid.result _ _ c.rekid.ensures (λ m r. take_below p c.args.store.now c.take.new.store c.rekid.new.store n (plain p c.kid-kid.result) (plain p c.in_ok-kid-in-Ok.kid) c.lift-kid.result (plain p m) _ _ c.in-Ok.place c.requires.node c.in-Ok.ensures c.kid-kid.ensures c.in_ok-kid-in-Ok.ensures c.lift-kid.ensures u r)

pub returns-in-Err : goal.returns-in-Err
returns-in-Err g t c =
    let p = g.M.Mark.present in
    let n = plain p c.args.node.now in
    let common = common_with c.args.store.now n c.name.result.now c.args.octets.now c.common-same.result c.name.ensures c.common-same.ensures in
    let u = key_under c.args.store.now n c.args.octets.now c.args.wild c.common-same.result c.requires.node common c.if-same-node.false c.if-same-octets.true c.requires.short in
    take_gap c.args.store.now n _ _ _ c.requires.node c.in-Err.ensures u

pub returns-else-same-octets : goal.returns-else-same-octets
returns-else-same-octets g t c =
    let p = g.M.Mark.present in
    let n = plain p c.args.node.now in
    let common = common_with c.args.store.now n c.name.result.now c.args.octets.now c.common-same.result c.name.ensures c.common-same.ensures in
    take_whole c.args.store.now n (plain p c.without_value.result) c.args.octets.now c.args.wild c.requires.node (same_key c.args.store.now n c.args.octets.now c.common-same.result c.requires.node common c.if-same-node.false c.if-same-octets.false) c.without_value.ensures
