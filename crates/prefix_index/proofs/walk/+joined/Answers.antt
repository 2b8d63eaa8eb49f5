use Rattle.std.proofs.Common.{◌≡◌, ap, ◌∙◌, arith}
use Rattle.prefix_index.specs.PlainNode.{plain_nodes}
use Rattle.prefix_index.specs.Nodes.{stands}
use Rattle.prefix_index.specs.Walk.{depth}
use Rattle.prefix_index.proofs.Joining.{joined_none, joined_away, joined_one, joined_zero, joined_here}
use Rattle.prefix_index.proofs.Walking.{no_depth}
use Rattle.prefix_index.proofs.walk.+joined.Goals as goal

pub returns-then-at-eq0-clause-found : goal.returns-then-at-eq0-clause-found
returns-then-at-eq0-clause-found g t c = λ number.
    joined_none g.K.Key.keys g.met.K.Key.laws g.N.NumberSet.has _ number c.args.key.now c.args.at _ c.if-at-eq0.true (c.none.ensures number)

pub returns-then-at-eq0-clause-cost : goal.returns-then-at-eq0-clause-cost
returns-then-at-eq0-clause-cost g t c =
    let keys = g.K.Key.keys in
    let nodes = plain_nodes g.M.Mark.present c.args.nodes.now in
    let none : depth keys (stands keys nodes c.args.at) ≡ 0 = ap (λ at. depth keys (stands keys nodes at)) c.if-at-eq0.true ∙ no_depth keys g.met.K.Key.laws nodes in
    omega arith

pub returns-then-common-len-clause-found : goal.returns-then-common-len-clause-found
returns-then-common-len-clause-found g t c = λ number.
    joined_away g.K.Key.keys g.met.K.Key.laws g.N.NumberSet.has _ number c.args.key.now c.args.at c.common-common.result _ _ c.node_at-node.ensures
    (omega (arith, c.if-common-len.true, c.len.ensures)) c.common-common.ensures.differ (c.none-then-common-len.ensures number)

pub returns-then-bit-clause-found : goal.returns-then-bit-clause-found
returns-then-bit-clause-found g t c = λ number.
    joined_one g.K.Key.keys g.met.K.Key.laws g.N.NumberSet.has _ number c.args.key.now c.args.at c.common-common.result _ _ c.node_at-node.ensures
    (omega (arith, c.common-common.ensures.here, c.if-common-len.false, c.len.ensures)) c.common-common.ensures.agree _
    (omega (arith, c.if-common-len-2.true, c.len-else-common-len.ensures)) c.if-bit.ensures (c.joined.ensures.found number) (c.with_own.ensures number)

pub returns-else-bit-clause-found : goal.returns-else-bit-clause-found
returns-else-bit-clause-found g t c = λ number.
    joined_zero g.K.Key.keys g.met.K.Key.laws g.N.NumberSet.has _ number c.args.key.now c.args.at c.common-common.result _ _ c.node_at-node.ensures
    (omega (arith, c.common-common.ensures.here, c.if-common-len.false, c.len.ensures)) c.common-common.ensures.agree _
    (omega (arith, c.if-common-len-2.true, c.len-else-common-len.ensures)) c.if-bit.ensures (c.joined-else-bit.ensures.found number) (c.with_own-else-bit.ensures number)

pub returns-else-common-len-2-clause-found : goal.returns-else-common-len-2-clause-found
returns-else-common-len-2-clause-found g t c = λ number.
    joined_here g.K.Key.keys g.met.K.Key.laws g.N.NumberSet.has _ number c.args.key.now c.args.at c.common-common.result _ _ c.node_at-node.ensures
    (omega (arith, c.common-common.ensures.here, c.if-common-len.false, c.len.ensures)) c.common-common.ensures.agree
    (omega (arith, c.if-common-len-2.false, c.len-else-common-len.ensures, c.common-common.ensures.there)) (c.own_set.ensures number)
