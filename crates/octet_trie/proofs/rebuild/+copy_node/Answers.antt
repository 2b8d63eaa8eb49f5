use Rattle.std.proofs.Common.{length, ap, arith}
use Rattle.octet_trie.specs.Nodes.{kids_of}
use Rattle.octet_trie.specs.Plain.{plain}
use Rattle.octet_trie.proofs.Copying.{copied_none, copied_more, copied_whole, copied_node, copied_under, key_of_node, all_keyed}
use Rattle.octet_trie.proofs.Putting.{name_length}
use Rattle.octet_trie.proofs.Searching.{kids_count}
use Rattle.octet_trie.proofs.rebuild.+copy_node.Goals as goal

pub loop-place-init : goal.loop-place-init
loop-place-init g t c = copied_none g.M.Mark.present c.args.into.now c.new-kids.result.items (kids_of c.args.source.now.subs (plain g.M.Mark.present c.args.node.now)) c.new-kids.ensures.items

pub loop-place-preserved : goal.loop-place-preserved
loop-place-preserved g t c =
    let p = g.M.Mark.present in
    copied_more p c.args.source.now c.args.into.now c.loop-place.into c.copy_node.new.into (plain p c.args.node.now) (plain p c.kid-kid.result) c.loop-place.kids.items c.push.new.self.items c.in_ok-kid.kid c.loop-place.place (omega arith) c.requires c.kid-kid.ensures c.loop-place.invariant c.in_ok-kid.ensures c.in_ok-push.ensures.items

pub place_key-requires-clause-short : goal.place_key-requires-clause-short
place_key-requires-clause-short g t c =
    let n = plain g.M.Mark.present c.args.node.now in
    omega (arith, ap length c.name.ensures, name_length c.args.source.now n c.requires, c.requires.short)

pub place_key-requires-clause-under : goal.place_key-requires-clause-under
place_key-requires-clause-under g t c =
    let p = g.M.Mark.present in
    let n = plain p c.args.node.now in
    let source = c.args.source.now in
    let count = kids_count source n c.requires in
    let whole = copied_whole p c.args.into.now c.loop-place.into c.loop-place.kids.items (kids_of source.subs n) c.loop-place.place (omega (arith, count)) c.loop-place.invariant in
    copied_under p source c.args.into.now c.loop-place.into n c.name.result.now c.loop-place.kids.items c.requires c.name.ensures whole

pub push_all-requires : goal.push_all-requires
push_all-requires g t c =
    let p = g.M.Mark.present in
    all_keyed p c.loop-place.into c.place_key.new.into _ _ c.in_ok-key.key c.loop-place.kids.items c.in_ok-key.ensures c.loop-place.invariant.nodes

pub returns : goal.returns
returns g t c =
    let p = g.M.Mark.present in
    let n = plain p c.args.node.now in
    let source = c.args.source.now in
    let ks = kids_of source.subs n in
    let count = kids_count source n c.requires in
    let whole = copied_whole p c.args.into.now c.loop-place.into c.loop-place.kids.items ks c.loop-place.place (omega (arith, count)) c.loop-place.invariant in
    let at = key_of_node p source c.loop-place.into c.place_key.new.into n c.name.result.now c.in_ok-key.key c.requires c.name.ensures c.in_ok-key.ensures in
    copied_node p source c.args.into.now c.loop-place.into c.place_key.new.into c.push_all.new.into n (plain p c.moved.result) c.loop-place.kids.items c.in_ok-key.key c.len-first.result c.requires whole at c.len-first.ensures.len c.in_ok-push_all.ensures c.moved.ensures
