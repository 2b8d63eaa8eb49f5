use Rattle.std.proofs.Common.{◌-◌, arith}
use Rattle.prefix_index.proofs.Numbers.{node_at}
use Rattle.prefix_index.proofs.Plain.{map_get}
use Rattle.prefix_index.specs.PlainNode.{plain_node, plain_nodes}
use Rattle.prefix_index.proofs.node.node_at.Goals as goal

pub returns : goal.returns
returns g c =
    node_at g.K.Key.keys (plain_nodes g.M.Mark.present c.args.nodes.now) c.args.at (c.args.at - 1) _ c.requires.well (omega (arith, c.requires.some))
    (map_get (plain_node g.M.Mark.present) c.args.nodes.now (c.args.at - 1) _ c.get.ensures)
