use Rattle.std.proofs.Common.{sym, subst}
use Rattle.prefix_index.specs.PlainNode.{plain_nodes}
use Rattle.prefix_index.specs.Nodes.{Copied}
use Rattle.prefix_index.proofs.Copying.{copy_all, copy_node, copy_none}
use Rattle.prefix_index.proofs.Putting.{told}
use Rattle.prefix_index.proofs.copy.+copy.Goals as goal

pub returns-then-at-eq0 : goal.returns-then-at-eq0
returns-then-at-eq0 g t c =
    let source = plain_nodes g.M.Mark.present c.args.source.now in
    let nodes = plain_nodes g.M.Mark.present c.args.nodes.now in
    subst (λ at. Copied g.K.Key.keys source at nodes nodes 0) (sym c.if-at-eq0.true) (copy_none g.K.Key.keys g.met.K.Key.laws source nodes c.requires.well)

pub push-requires-clause-node : goal.push-requires-clause-node
push-requires-clause-node g t c = copy_node g.K.Key.keys g.met.K.Key.laws _ _ _ _ _ _ _ _ c.node_at-node.ensures c.in_ok-zero.ensures c.in_ok-one.ensures

pub returns : goal.returns
returns g t c =
    told c.push.result _ _ c.push.ensures (λ number p.
    copy_all g.K.Key.keys g.met.K.Key.laws _ _ _ _ _ _ _ _ _ number c.node_at-node.ensures c.in_ok-zero.ensures c.in_ok-one.ensures p)
