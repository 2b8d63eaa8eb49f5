use Rattle.trie_keys.specs.Keys.{Under}
use Rattle.prefix_index.proofs.Putting.{above_zero_node, above_one_node, put_above_zero, put_above_one, told, under_of}
use Rattle.prefix_index.proofs.put.put_above.Goals as goal

pub push_value-requires-clause-node : goal.push_value-requires-clause-node
push_value-requires-clause-node g c =
    let keys = g.K.Key.keys in
    let laws = g.met.K.Key.laws in
    let u : Under keys c.args.key 1 c.args.node.now.key = under_of keys laws c.args.key c.args.node.now.key 1 c.len.result c.requires.agrees c.requires.longer c.requires.is_at.node.valid c.len.ensures c.if-bit.ensures in
    above_one_node keys laws _ _ _ _ _ c.requires.is_at c.requires.within c.requires.valid u

pub push_value-requires-else-bit-clause-node : goal.push_value-requires-else-bit-clause-node
push_value-requires-else-bit-clause-node g c =
    let keys = g.K.Key.keys in
    let laws = g.met.K.Key.laws in
    let u : Under keys c.args.key 0 c.args.node.now.key = under_of keys laws c.args.key c.args.node.now.key 0 c.len.result c.requires.agrees c.requires.longer c.requires.is_at.node.valid c.len.ensures c.if-bit.ensures in
    above_zero_node keys laws _ _ _ _ _ c.requires.is_at c.requires.within c.requires.valid u

pub returns-then-bit : goal.returns-then-bit
returns-then-bit g c =
    let keys = g.K.Key.keys in
    let laws = g.met.K.Key.laws in
    let u : Under keys c.args.key 1 c.args.node.now.key = under_of keys laws c.args.key c.args.node.now.key 1 c.len.result c.requires.agrees c.requires.longer c.requires.is_at.node.valid c.len.ensures c.if-bit.ensures in
    told c.push_value.result _ _ c.push_value.ensures (λ number p. put_above_one keys laws _ _ _ _ _ _ number c.requires.well c.requires.is_at c.requires.valid u p)

pub returns-else-bit : goal.returns-else-bit
returns-else-bit g c =
    let keys = g.K.Key.keys in
    let laws = g.met.K.Key.laws in
    let u : Under keys c.args.key 0 c.args.node.now.key = under_of keys laws c.args.key c.args.node.now.key 0 c.len.result c.requires.agrees c.requires.longer c.requires.is_at.node.valid c.len.ensures c.if-bit.ensures in
    told c.push_value-else-bit.result _ _ c.push_value-else-bit.ensures (λ number p. put_above_zero keys laws _ _ _ _ _ _ number c.requires.well c.requires.is_at c.requires.valid u p)
