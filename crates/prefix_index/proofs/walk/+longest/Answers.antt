use Rattle.std.proofs.Common.{◌≡◌, ◌<◌, true, sym, ap, ◌∙◌, arith}
use Rattle.trie_keys.specs.Scan.{option_else}
use Rattle.prefix_index.specs.PlainNode.{plain_nodes, value_of}
use Rattle.prefix_index.specs.Nodes.{stands}
use Rattle.prefix_index.specs.Walk.{acts_at, depth, last_hit, own_hit}
use Rattle.prefix_index.proofs.Walking.{walk_none, walk_away, walk_one, walk_zero, walk_here, no_depth}
use Rattle.prefix_index.proofs.walk.+longest.Goals as goal

pub returns-then-at-eq0-clause-found : goal.returns-then-at-eq0-clause-found
returns-then-at-eq0-clause-found g t c =
    let keys = g.K.Key.keys in
    let acts = acts_at g.M.Mark.acts in
    let nodes = plain_nodes g.M.Mark.present c.args.nodes.now in
    sym (walk_none keys g.met.K.Key.laws acts nodes c.args.key.now) ∙ ap (λ at. last_hit keys acts c.args.key.now (stands keys nodes at).list) (sym c.if-at-eq0.true)

pub returns-then-at-eq0-clause-cost : goal.returns-then-at-eq0-clause-cost
returns-then-at-eq0-clause-cost g t c =
    let keys = g.K.Key.keys in
    let nodes = plain_nodes g.M.Mark.present c.args.nodes.now in
    let none : depth keys (stands keys nodes c.args.at) ≡ 0 = ap (λ at. depth keys (stands keys nodes at)) c.if-at-eq0.true ∙ no_depth keys g.met.K.Key.laws nodes in
    omega arith

pub returns-then-common-len-clause-found : goal.returns-then-common-len-clause-found
returns-then-common-len-clause-found g t c =
    let keys = g.K.Key.keys in
    let n = c.node_at-node.result.now in
    let short : c.common-common.result < keys.len n.key = omega (arith, c.if-common-len.true, c.len.ensures) in
    sym (walk_away keys g.met.K.Key.laws (acts_at g.M.Mark.acts) _ c.args.at _ c.args.key.now c.common-common.result c.node_at-node.ensures short c.common-common.ensures.differ)

pub returns-then-bit-clause-found : goal.returns-then-bit-clause-found
returns-then-bit-clause-found g t c =
    let keys = g.K.Key.keys in
    let laws = g.met.K.Key.laws in
    let n = c.node_at-node.result.now in
    let is = c.node_at-node.ensures in
    let whole : c.common-common.result ≡ keys.len n.key = omega (arith, c.common-common.ensures.here, c.if-common-len.false, c.len.ensures) in
    let agree : keys.agree (keys.len n.key) n.key c.args.key.now ≡ true = ap (λ m. keys.agree m n.key c.args.key.now) (sym whole) ∙ c.common-common.ensures.agree in
    let short : keys.len n.key < keys.len c.args.key.now = omega (arith, c.if-common-len-2.true, c.len-else-common-len.ensures, whole) in
    let next : keys.symbol c.args.key.now (keys.len n.key) ≡ 1 = ap (keys.symbol c.args.key.now) (sym whole) ∙ c.if-bit.ensures in
    let acts = acts_at g.M.Mark.acts in
    c.found_or_own.ensures
    ∙ ap (λ o. option_else o (own_hit acts n.key (value_of g.M.Mark.present n.value))) c.longest.ensures.found
    ∙ sym (walk_one keys laws acts _ c.args.at _ c.args.key.now is agree short next)

pub returns-else-bit-clause-found : goal.returns-else-bit-clause-found
returns-else-bit-clause-found g t c =
    let keys = g.K.Key.keys in
    let laws = g.met.K.Key.laws in
    let n = c.node_at-node.result.now in
    let is = c.node_at-node.ensures in
    let whole : c.common-common.result ≡ keys.len n.key = omega (arith, c.common-common.ensures.here, c.if-common-len.false, c.len.ensures) in
    let agree : keys.agree (keys.len n.key) n.key c.args.key.now ≡ true = ap (λ m. keys.agree m n.key c.args.key.now) (sym whole) ∙ c.common-common.ensures.agree in
    let short : keys.len n.key < keys.len c.args.key.now = omega (arith, c.if-common-len-2.true, c.len-else-common-len.ensures, whole) in
    let next : keys.symbol c.args.key.now (keys.len n.key) ≡ 0 = ap (keys.symbol c.args.key.now) (sym whole) ∙ c.if-bit.ensures in
    let acts = acts_at g.M.Mark.acts in
    c.found_or_own-else-bit.ensures
    ∙ ap (λ o. option_else o (own_hit acts n.key (value_of g.M.Mark.present n.value))) c.longest-else-bit.ensures.found
    ∙ sym (walk_zero keys laws acts _ c.args.at _ c.args.key.now is agree short next)

pub returns-else-common-len-2-clause-found : goal.returns-else-common-len-2-clause-found
returns-else-common-len-2-clause-found g t c =
    let keys = g.K.Key.keys in
    let laws = g.met.K.Key.laws in
    let n = c.node_at-node.result.now in
    let is = c.node_at-node.ensures in
    let whole : c.common-common.result ≡ keys.len n.key = omega (arith, c.common-common.ensures.here, c.if-common-len.false, c.len.ensures) in
    let agree : keys.agree (keys.len n.key) n.key c.args.key.now ≡ true = ap (λ m. keys.agree m n.key c.args.key.now) (sym whole) ∙ c.common-common.ensures.agree in
    let same : keys.len n.key ≡ keys.len c.args.key.now = omega (arith, c.if-common-len-2.false, c.len-else-common-len.ensures, c.common-common.ensures.there, whole) in
    c.own_hit.ensures ∙ sym (walk_here keys laws (acts_at g.M.Mark.acts) _ c.args.at _ c.args.key.now is agree same)
