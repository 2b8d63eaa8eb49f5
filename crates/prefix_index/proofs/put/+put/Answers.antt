use Rattle.std.proofs.Common.{◌≡◌, true, sym, ap, ◌∙◌, subst, arith, IfOk}
use Rattle.trie_keys.specs.Keys.{Under}
use Rattle.prefix_index.specs.PlainNode.{plain_nodes}
use Rattle.prefix_index.specs.Nodes.{Put}
use Rattle.prefix_index.proofs.Putting.{under_of, leaf_node, below_zero_node, below_one_node, put_none, put_below_zero, put_below_one, told}
use Rattle.prefix_index.proofs.put.+put.Goals as goal

pub push_value-requires-clause-node : goal.push_value-requires-clause-node
push_value-requires-clause-node g t c = leaf_node g.K.Key.keys g.met.K.Key.laws _ _ _ c.requires.valid

pub returns-then-at-eq0 : goal.returns-then-at-eq0
returns-then-at-eq0 g t c =
    let old = plain_nodes g.M.Mark.present c.args.nodes.now in
    let new = plain_nodes g.M.Mark.present c.push_value.new.nodes in
    told c.push_value.result _ _ c.push_value.ensures (λ number p.
    subst (λ at. Put g.K.Key.keys old new at c.args.key c.args.value number) (sym c.if-at-eq0.true)
    (put_none g.K.Key.keys g.met.K.Key.laws _ _ _ _ number c.requires.well p))

pub push-requires-clause-node : goal.push-requires-clause-node
push-requires-clause-node g t c =
    let keys = g.K.Key.keys in
    let laws = g.met.K.Key.laws in
    let n = c.node_at.result.now in
    let is = c.node_at.ensures in
    let whole : c.common-common.result ≡ keys.len n.key = omega (arith, c.common-common.ensures.here, c.if-common-len.false, c.len.ensures) in
    let agree : keys.agree (keys.len n.key) n.key c.args.key ≡ true = ap (λ m. keys.agree m n.key c.args.key) (sym whole) ∙ c.common-common.ensures.agree in
    let u : Under keys n.key 1 c.args.key = under_of keys laws n.key c.args.key 1 c.common-common.result agree (omega (arith, c.if-common-len-3.true, whole)) c.requires.valid whole c.if-bit.ensures in
    below_one_node keys laws _ _ _ _ _ _ _ is u c.in_ok-one.ensures

pub push-requires-else-bit-clause-node : goal.push-requires-else-bit-clause-node
push-requires-else-bit-clause-node g t c =
    let keys = g.K.Key.keys in
    let laws = g.met.K.Key.laws in
    let n = c.node_at.result.now in
    let is = c.node_at.ensures in
    let whole : c.common-common.result ≡ keys.len n.key = omega (arith, c.common-common.ensures.here, c.if-common-len.false, c.len.ensures) in
    let agree : keys.agree (keys.len n.key) n.key c.args.key ≡ true = ap (λ m. keys.agree m n.key c.args.key) (sym whole) ∙ c.common-common.ensures.agree in
    let u : Under keys n.key 0 c.args.key = under_of keys laws n.key c.args.key 0 c.common-common.result agree (omega (arith, c.if-common-len-3.true, whole)) c.requires.valid whole c.if-bit.ensures in
    below_zero_node keys laws _ _ _ _ _ _ _ is u c.in_ok-zero.ensures

pub returns-in_ok-one : goal.returns-in_ok-one
returns-in_ok-one g t c =
    let keys = g.K.Key.keys in
    let laws = g.met.K.Key.laws in
    let n = c.node_at.result.now in
    let is = c.node_at.ensures in
    let whole : c.common-common.result ≡ keys.len n.key = omega (arith, c.common-common.ensures.here, c.if-common-len.false, c.len.ensures) in
    let agree : keys.agree (keys.len n.key) n.key c.args.key ≡ true = ap (λ m. keys.agree m n.key c.args.key) (sym whole) ∙ c.common-common.ensures.agree in
    let u : Under keys n.key 1 c.args.key = under_of keys laws n.key c.args.key 1 c.common-common.result agree (omega (arith, c.if-common-len-3.true, whole)) c.requires.valid whole c.if-bit.ensures in
    told c.push.result _ _ c.push.ensures (λ number p. put_below_one keys laws _ _ _ _ _ _ _ _ number is u c.in_ok-one.ensures p)

pub returns-in_ok-zero : goal.returns-in_ok-zero
returns-in_ok-zero g t c =
    let keys = g.K.Key.keys in
    let laws = g.met.K.Key.laws in
    let n = c.node_at.result.now in
    let is = c.node_at.ensures in
    let whole : c.common-common.result ≡ keys.len n.key = omega (arith, c.common-common.ensures.here, c.if-common-len.false, c.len.ensures) in
    let agree : keys.agree (keys.len n.key) n.key c.args.key ≡ true = ap (λ m. keys.agree m n.key c.args.key) (sym whole) ∙ c.common-common.ensures.agree in
    let u : Under keys n.key 0 c.args.key = under_of keys laws n.key c.args.key 0 c.common-common.result agree (omega (arith, c.if-common-len-3.true, whole)) c.requires.valid whole c.if-bit.ensures in
    told c.push-else-bit.result _ _ c.push-else-bit.ensures (λ number p. put_below_zero keys laws _ _ _ _ _ _ _ _ number is u c.in_ok-zero.ensures p)

pub returns-else-common-len-3 : goal.returns-else-common-len-3
returns-else-common-len-3 g t c =
    let keys = g.K.Key.keys in
    let laws = g.met.K.Key.laws in
    let n = c.node_at.result.now in
    let is = c.node_at.ensures in
    let whole : c.common-common.result ≡ keys.len n.key = omega (arith, c.common-common.ensures.here, c.if-common-len.false, c.len.ensures) in
    let agree : keys.agree (keys.len n.key) n.key c.args.key ≡ true = ap (λ m. keys.agree m n.key c.args.key) (sym whole) ∙ c.common-common.ensures.agree in
    let lengths : keys.len n.key ≡ keys.len c.args.key = omega (arith, whole, c.common-common.ensures.there, c.if-common-len-3.false, c.len-else-common-len.ensures) in
    let same : n.key ≡ c.args.key = laws.whole n.key c.args.key is.node.valid c.requires.valid lengths agree in
    let old = plain_nodes g.M.Mark.present c.args.nodes.now in
    let new = plain_nodes g.M.Mark.present c.put_here.new.nodes in
    subst (λ k. IfOk c.put_here.result (λ number. Put keys old new c.args.at k c.args.value number)) same c.put_here.ensures
