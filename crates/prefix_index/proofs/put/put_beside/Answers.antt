use Rattle.prefix_index.proofs.Putting.{Parts, parts_one, parts_zero, leaf_node, beside_zero_node, beside_one_node, put_beside_zero, put_beside_one, told}
use Rattle.prefix_index.proofs.put.put_beside.Goals as goal

pub push_value-requires-clause-node : goal.push_value-requires-clause-node
push_value-requires-clause-node g c = leaf_node g.K.Key.keys g.met.K.Key.laws _ _ _ c.requires.valid

pub push_branch-requires-clause-node : goal.push_branch-requires-clause-node
push_branch-requires-clause-node g c =
    let keys = g.K.Key.keys in
    let laws = g.met.K.Key.laws in
    let n = c.args.node.now in
    let parts : Parts keys laws c.cut-part.result n.key c.args.key 0 1 = parts_one keys laws c.cut-part.result n.key c.args.key c.args.common c.cut-part.ensures.valid c.cut-part.ensures.len c.cut-part.ensures.agree c.requires.agrees c.requires.shorter c.requires.short c.requires.is_at.node.valid c.requires.valid c.requires.differ (g.met.K.Key.binary n.key c.args.common) c.if-bit.ensures in
    beside_one_node keys laws _ _ _ _ _ _ _ _ c.requires.is_at c.requires.within parts c.in_ok-other.ensures

pub push_branch-requires-else-bit-clause-node : goal.push_branch-requires-else-bit-clause-node
push_branch-requires-else-bit-clause-node g c =
    let keys = g.K.Key.keys in
    let laws = g.met.K.Key.laws in
    let n = c.args.node.now in
    let parts : Parts keys laws c.cut-part.result n.key c.args.key 1 0 = parts_zero keys laws c.cut-part.result n.key c.args.key c.args.common c.cut-part.ensures.valid c.cut-part.ensures.len c.cut-part.ensures.agree c.requires.agrees c.requires.shorter c.requires.short c.requires.is_at.node.valid c.requires.valid c.requires.differ (g.met.K.Key.binary n.key c.args.common) c.if-bit.ensures in
    beside_zero_node keys laws _ _ _ _ _ _ _ _ c.requires.is_at c.requires.within parts c.in_ok-other.ensures

pub returns-then-bit : goal.returns-then-bit
returns-then-bit g c =
    let keys = g.K.Key.keys in
    let laws = g.met.K.Key.laws in
    let n = c.args.node.now in
    let parts : Parts keys laws c.cut-part.result n.key c.args.key 0 1 = parts_one keys laws c.cut-part.result n.key c.args.key c.args.common c.cut-part.ensures.valid c.cut-part.ensures.len c.cut-part.ensures.agree c.requires.agrees c.requires.shorter c.requires.short c.requires.is_at.node.valid c.requires.valid c.requires.differ (g.met.K.Key.binary n.key c.args.common) c.if-bit.ensures in
    told c.push_branch.result _ _ c.push_branch.ensures (λ number p. put_beside_one keys laws _ _ _ _ _ _ _ _ _ number c.requires.is_at c.requires.within parts c.in_ok-other.ensures p)

pub returns-else-bit : goal.returns-else-bit
returns-else-bit g c =
    let keys = g.K.Key.keys in
    let laws = g.met.K.Key.laws in
    let n = c.args.node.now in
    let parts : Parts keys laws c.cut-part.result n.key c.args.key 1 0 = parts_zero keys laws c.cut-part.result n.key c.args.key c.args.common c.cut-part.ensures.valid c.cut-part.ensures.len c.cut-part.ensures.agree c.requires.agrees c.requires.shorter c.requires.short c.requires.is_at.node.valid c.requires.valid c.requires.differ (g.met.K.Key.binary n.key c.args.common) c.if-bit.ensures in
    told c.push_branch-else-bit.result _ _ c.push_branch-else-bit.ensures (λ number p. put_beside_zero keys laws _ _ _ _ _ _ _ _ _ number c.requires.is_at c.requires.within parts c.in_ok-other.ensures p)
