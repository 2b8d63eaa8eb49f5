use Rattle.std.proofs.Common.{◌≡◌, true, sym, ap, ◌∙◌, arith}
use Rattle.std.specs.BTreeMap.{is_at}
use Rattle.std.specs.Map.{lookup}
use Rattle.trie_keys.specs.Keys.{Under}
use Rattle.prefix_index.specs.PlainNode.{plain_nodes}
use Rattle.prefix_index.specs.Nodes.{stands}
use Rattle.prefix_index.proofs.Putting.{under_of}
use Rattle.prefix_index.proofs.Getting.{get_none, get_away, get_zero, get_one, get_here}
use Rattle.prefix_index.proofs.walk.+get.Goals as goal

pub returns-then-at-eq0 : goal.returns-then-at-eq0
returns-then-at-eq0 g t c =
    let keys = g.K.Key.keys in
    let nodes = plain_nodes g.M.Mark.present c.args.nodes.now in
    sym (get_none keys g.met.K.Key.laws nodes c.args.key.now) ∙ ap (λ at. lookup (is_at (keys.order c.args.key.now)) (stands keys nodes at).list) (sym c.if-at-eq0.true)

pub returns-then-common-len : goal.returns-then-common-len
returns-then-common-len g t c =
    let keys = g.K.Key.keys in
    sym (get_away keys g.met.K.Key.laws _ c.args.at _ c.args.key.now c.common-common.result c.node_at-node.ensures
    (omega (arith, c.if-common-len.true, c.len.ensures)) c.common-common.ensures.there c.common-common.ensures.differ)

pub returns-then-bit : goal.returns-then-bit
returns-then-bit g t c =
    let keys = g.K.Key.keys in
    let laws = g.met.K.Key.laws in
    let n = c.node_at-node.result.now in
    let is = c.node_at-node.ensures in
    let whole : c.common-common.result ≡ keys.len n.key = omega (arith, c.common-common.ensures.here, c.if-common-len.false, c.len.ensures) in
    let agree : keys.agree (keys.len n.key) n.key c.args.key.now ≡ true = ap (λ m. keys.agree m n.key c.args.key.now) (sym whole) ∙ c.common-common.ensures.agree in
    let u : Under keys n.key 1 c.args.key.now = under_of keys laws n.key c.args.key.now 1 c.common-common.result agree (omega (arith, c.if-common-len-2.true, whole, c.len-else-common-len.ensures)) c.requires.valid whole c.if-bit.ensures in
    c.get.ensures ∙ sym (get_one keys laws _ c.args.at _ c.args.key.now is u)

pub returns-else-bit : goal.returns-else-bit
returns-else-bit g t c =
    let keys = g.K.Key.keys in
    let laws = g.met.K.Key.laws in
    let n = c.node_at-node.result.now in
    let is = c.node_at-node.ensures in
    let whole : c.common-common.result ≡ keys.len n.key = omega (arith, c.common-common.ensures.here, c.if-common-len.false, c.len.ensures) in
    let agree : keys.agree (keys.len n.key) n.key c.args.key.now ≡ true = ap (λ m. keys.agree m n.key c.args.key.now) (sym whole) ∙ c.common-common.ensures.agree in
    let u : Under keys n.key 0 c.args.key.now = under_of keys laws n.key c.args.key.now 0 c.common-common.result agree (omega (arith, c.if-common-len-2.true, whole, c.len-else-common-len.ensures)) c.requires.valid whole c.if-bit.ensures in
    c.get-else-bit.ensures ∙ sym (get_zero keys laws _ c.args.at _ c.args.key.now is u)

pub returns-else-common-len-2 : goal.returns-else-common-len-2
returns-else-common-len-2 g t c =
    let keys = g.K.Key.keys in
    let laws = g.met.K.Key.laws in
    let n = c.node_at-node.result.now in
    let is = c.node_at-node.ensures in
    let whole : c.common-common.result ≡ keys.len n.key = omega (arith, c.common-common.ensures.here, c.if-common-len.false, c.len.ensures) in
    let agree : keys.agree (keys.len n.key) n.key c.args.key.now ≡ true = ap (λ m. keys.agree m n.key c.args.key.now) (sym whole) ∙ c.common-common.ensures.agree in
    let lengths : keys.len n.key ≡ keys.len c.args.key.now = omega (arith, whole, c.common-common.ensures.there, c.if-common-len-2.false, c.len-else-common-len.ensures) in
    let same : n.key ≡ c.args.key.now = laws.whole n.key c.args.key.now is.node.valid c.requires.valid lengths agree in
    let nodes = plain_nodes g.M.Mark.present c.args.nodes.now in
    c.own_value.ensures ∙ sym (get_here keys laws _ c.args.at _ is) ∙ ap (λ k. lookup (is_at (keys.order k)) (stands keys nodes c.args.at).list) same
