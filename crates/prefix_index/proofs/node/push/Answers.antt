use Rattle.std.proofs.Common.{arith, ap, ◌∙◌}
use Rattle.prefix_index.specs.PlainNode.{plain_node, plain_nodes}
use Rattle.prefix_index.proofs.Numbers.{pushed}
use Rattle.prefix_index.proofs.Plain.{map_length, map_push}
use Rattle.prefix_index.proofs.node.push.Goals as goal

pub returns : goal.returns
returns g c =
    let f = plain_node g.M.Mark.present in
    pushed g.K.Key.keys _ _ _ _ c.requires.well c.requires.node (ap (plain_nodes g.M.Mark.present) c.in_ok-push.ensures.ok ∙ map_push f c.args.nodes.now _) (omega (arith, map_length f c.args.nodes.now))
