use Rattle.octet_trie.specs.Plain.{plain}
use Rattle.octet_trie.proofs.Putting.{told, put_whole, put_below, put_branched, common_with, same_key, key_under}
use Rattle.octet_trie.proofs.put.+put.Goals as goal

pub returns-in_ok-branch : goal.returns-in_ok-branch
returns-in_ok-branch g t c =
    let p = g.M.Mark.present in
    let n = plain p c.args.node.now in
    let common = common_with c.args.store.now n c.name.result.now c.args.octets.now c.common-same.result c.name.ensures c.common-same.ensures in
    told c.put_apart.result _ _ c.put_apart.ensures (λ m r. put_branched c.args.store.now c.branch_at.new.store c.put_apart.new.store n (plain p c.in_ok-branch.branch) (plain p m) c.args.octets.now c.args.wild c.args.value c.common-same.result c.requires.node c.requires.short common c.if-same-node.true c.in_ok-branch.ensures r)

pub returns-in_ok-kid-in-Ok : goal.returns-in_ok-kid-in-Ok
returns-in_ok-kid-in-Ok g t c =
    let p = g.M.Mark.present in
    let n = plain p c.args.node.now in
    let common = common_with c.args.store.now n c.name.result.now c.args.octets.now c.common-same.result c.name.ensures c.common-same.ensures in
    let u = key_under c.args.store.now n c.args.octets.now c.args.wild c.common-same.result c.requires.node common c.if-same-node.false c.if-same-octets.true c.requires.short in
    told c.rekid.result _ _ c.rekid.ensures (λ m r. put_below c.args.store.now c.put.new.store c.rekid.new.store n (plain p c.kid-kid.result) (plain p c.in_ok-kid-in-Ok.kid) (plain p m) _ c.args.value _ c.in-Ok.place c.requires.node c.in-Ok.ensures c.kid-kid.ensures c.in_ok-kid-in-Ok.ensures u r)

pub returns-else-same-octets : goal.returns-else-same-octets
returns-else-same-octets g t c =
    let p = g.M.Mark.present in
    let n = plain p c.args.node.now in
    let common = common_with c.args.store.now n c.name.result.now c.args.octets.now c.common-same.result c.name.ensures c.common-same.ensures in
    put_whole c.args.store.now n (plain p c.with_value.result) c.args.octets.now c.args.wild c.args.value c.requires.node (same_key c.args.store.now n c.args.octets.now c.common-same.result c.requires.node common c.if-same-node.false c.if-same-octets.false) c.with_value.ensures
