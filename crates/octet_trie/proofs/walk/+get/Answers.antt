use Rattle.std.proofs.Common.{◌∙◌}
use Rattle.octet_trie.specs.Plain.{plain}
use Rattle.octet_trie.proofs.Putting.{common_with, same_key, key_under}
use Rattle.octet_trie.proofs.Walking.{get_apart, get_gap, get_whole, get_below}
use Rattle.octet_trie.proofs.walk.+get.Goals as goal

pub returns-then-same-node : goal.returns-then-same-node
returns-then-same-node g t c =
    let p = g.M.Mark.present in
    let n = plain p c.args.node.now in
    let common = common_with c.args.store.now n c.name.result.now c.args.octets.now c.common-same.result c.name.ensures c.common-same.ensures in
    get_apart c.args.store.now n c.args.octets.now c.args.wild c.common-same.result c.requires.node common c.if-same-node.true c.requires.short

pub returns-in-Ok : goal.returns-in-Ok
returns-in-Ok g t c =
    let p = g.M.Mark.present in
    let n = plain p c.args.node.now in
    let common = common_with c.args.store.now n c.name.result.now c.args.octets.now c.common-same.result c.name.ensures c.common-same.ensures in
    let u = key_under c.args.store.now n c.args.octets.now c.args.wild c.common-same.result c.requires.node common c.if-same-node.false c.if-same-octets.true c.requires.short in
    c.get.ensures ∙ get_below c.args.store.now n (plain p c.kid-kid.result) _ _ c.in-Ok.place c.requires.node c.in-Ok.ensures c.kid-kid.ensures u

pub returns-in-Err : goal.returns-in-Err
returns-in-Err g t c =
    let p = g.M.Mark.present in
    let n = plain p c.args.node.now in
    let common = common_with c.args.store.now n c.name.result.now c.args.octets.now c.common-same.result c.name.ensures c.common-same.ensures in
    let u = key_under c.args.store.now n c.args.octets.now c.args.wild c.common-same.result c.requires.node common c.if-same-node.false c.if-same-octets.true c.requires.short in
    get_gap c.args.store.now n _ _ _ c.requires.node c.in-Err.ensures u

pub returns-else-same-octets : goal.returns-else-same-octets
returns-else-same-octets g t c =
    let p = g.M.Mark.present in
    let n = plain p c.args.node.now in
    let common = common_with c.args.store.now n c.name.result.now c.args.octets.now c.common-same.result c.name.ensures c.common-same.ensures in
    c.value.ensures ∙ get_whole c.args.store.now n c.args.octets.now c.args.wild c.requires.node (same_key c.args.store.now n c.args.octets.now c.common-same.result c.requires.node common c.if-same-node.false c.if-same-octets.false)
