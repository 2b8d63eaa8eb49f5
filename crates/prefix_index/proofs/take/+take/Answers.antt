use Rattle.std.proofs.Common.{◌≡◌, true, sym, ap, ◌∙◌, subst, arith}
use Rattle.trie_keys.specs.Keys.{Under}
use Rattle.prefix_index.specs.PlainNode.{plain_nodes}
use Rattle.prefix_index.specs.Nodes.{Taken}
use Rattle.prefix_index.proofs.Putting.{under_of, told}
use Rattle.prefix_index.proofs.Taking.{left_zero_node, left_one_node, take_none, take_absent, take_same, take_below_zero, take_below_one}
use Rattle.prefix_index.proofs.take.+take.Goals as goal

pub returns-then-at-eq0 : goal.returns-then-at-eq0
returns-then-at-eq0 g t c =
    let old = plain_nodes g.M.Mark.present c.args.nodes.now in
    subst (λ at. Taken g.K.Key.keys old old at c.args.key.now 0) (sym c.if-at-eq0.true)
    (take_none g.K.Key.keys g.met.K.Key.laws old c.args.key.now c.requires.well)

pub join-requires-clause-node : goal.join-requires-clause-node
join-requires-clause-node g t c = left_one_node g.K.Key.keys g.met.K.Key.laws _ _ _ _ _ _ c.node_at.ensures c.in_ok-one.ensures

pub join-requires-else-bit-clause-node : goal.join-requires-else-bit-clause-node
join-requires-else-bit-clause-node g t c = left_zero_node g.K.Key.keys g.met.K.Key.laws _ _ _ _ _ _ c.node_at.ensures c.in_ok-zero.ensures

pub returns-then-common-len : goal.returns-then-common-len
returns-then-common-len g t c =
    let keys = g.K.Key.keys in
    take_absent keys g.met.K.Key.laws _ c.args.at _ c.args.key.now c.common-common.result c.requires.well c.requires.within c.node_at.ensures
    (omega (arith, c.if-common-len.true, c.len.ensures)) c.common-common.ensures.there c.common-common.ensures.differ

pub returns-in_ok-one : goal.returns-in_ok-one
returns-in_ok-one g t c =
    let keys = g.K.Key.keys in
    let laws = g.met.K.Key.laws in
    let n = c.node_at.result.now in
    let is = c.node_at.ensures in
    let whole : c.common-common.result ≡ keys.len n.key = omega (arith, c.common-common.ensures.here, c.if-common-len.false, c.len.ensures) in
    let agree : keys.agree (keys.len n.key) n.key c.args.key.now ≡ true = ap (λ m. keys.agree m n.key c.args.key.now) (sym whole) ∙ c.common-common.ensures.agree in
    let u : Under keys n.key 1 c.args.key.now = under_of keys laws n.key c.args.key.now 1 c.common-common.result agree (omega (arith, c.if-common-len-2.true, whole, c.len-else-common-len.ensures)) c.requires.valid whole c.if-bit.ensures in
    told c.join.result _ _ c.join.ensures (λ number j. take_below_one keys laws _ _ _ _ _ _ _ number is u c.in_ok-one.ensures j)

pub returns-in_ok-zero : goal.returns-in_ok-zero
returns-in_ok-zero g t c =
    let keys = g.K.Key.keys in
    let laws = g.met.K.Key.laws in
    let n = c.node_at.result.now in
    let is = c.node_at.ensures in
    let whole : c.common-common.result ≡ keys.len n.key = omega (arith, c.common-common.ensures.here, c.if-common-len.false, c.len.ensures) in
    let agree : keys.agree (keys.len n.key) n.key c.args.key.now ≡ true = ap (λ m. keys.agree m n.key c.args.key.now) (sym whole) ∙ c.common-common.ensures.agree in
    let u : Under keys n.key 0 c.args.key.now = under_of keys laws n.key c.args.key.now 0 c.common-common.result agree (omega (arith, c.if-common-len-2.true, whole, c.len-else-common-len.ensures)) c.requires.valid whole c.if-bit.ensures in
    told c.join-else-bit.result _ _ c.join-else-bit.ensures (λ number j. take_below_zero keys laws _ _ _ _ _ _ _ number is u c.in_ok-zero.ensures j)

pub returns-else-common-len-2 : goal.returns-else-common-len-2
returns-else-common-len-2 g t c =
    let keys = g.K.Key.keys in
    let laws = g.met.K.Key.laws in
    let n = c.node_at.result.now in
    let is = c.node_at.ensures in
    let whole : c.common-common.result ≡ keys.len n.key = omega (arith, c.common-common.ensures.here, c.if-common-len.false, c.len.ensures) in
    let agree : keys.agree (keys.len n.key) n.key c.args.key.now ≡ true = ap (λ m. keys.agree m n.key c.args.key.now) (sym whole) ∙ c.common-common.ensures.agree in
    let lengths : keys.len n.key ≡ keys.len c.args.key.now = omega (arith, whole, c.common-common.ensures.there, c.if-common-len-2.false, c.len-else-common-len.ensures) in
    let same : n.key ≡ c.args.key.now = laws.whole n.key c.args.key.now is.node.valid c.requires.valid lengths agree in
    let old = plain_nodes g.M.Mark.present c.args.nodes.now in
    let new = plain_nodes g.M.Mark.present c.join_kids.new.nodes in
    told c.join_kids.result _ _ c.join_kids.ensures (λ number j.
    subst (λ k. Taken keys old new c.args.at k number) same
    (take_same keys laws _ _ _ _ number c.requires.well is j))
