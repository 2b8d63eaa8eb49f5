use Rattle.std.proofs.Common.{None, sym, subst}
use Rattle.prefix_index.specs.PlainNode.{node_of, plain_nodes}
use Rattle.prefix_index.specs.Nodes.{IsNode, Joined, subs_of}
use Rattle.prefix_index.proofs.Putting.{told}
use Rattle.prefix_index.proofs.Taking.{join_pushed, join_one, join_zero}
use Rattle.prefix_index.proofs.take.join_kids.Goals as goal

pub returns-then-zero-eq0 : goal.returns-then-zero-eq0
returns-then-zero-eq0 g c =
    let keys = g.K.Key.keys in
    let nodes = plain_nodes g.M.Mark.present c.args.nodes.now in
    let node = subst (λ number. IsNode keys (subs_of keys nodes) (node_of c.args.key None number c.args.one)) c.if-zero-eq0.true c.requires.node in
    subst (λ number. Joined keys nodes nodes (node_of c.args.key None number c.args.one) c.args.one) (sym c.if-zero-eq0.true)
    (join_one keys g.met.K.Key.laws nodes c.args.key c.args.one c.requires.well node)

pub returns-then-one-eq0 : goal.returns-then-one-eq0
returns-then-one-eq0 g c =
    let keys = g.K.Key.keys in
    let nodes = plain_nodes g.M.Mark.present c.args.nodes.now in
    let node = subst (λ number. IsNode keys (subs_of keys nodes) (node_of c.args.key None c.args.zero number)) c.if-one-eq0.true c.requires.node in
    subst (λ number. Joined keys nodes nodes (node_of c.args.key None c.args.zero number) c.args.zero) (sym c.if-one-eq0.true)
    (join_zero keys g.met.K.Key.laws nodes c.args.key c.args.zero c.requires.well node)

pub returns-else-one-eq0 : goal.returns-else-one-eq0
returns-else-one-eq0 g c =
    told c.push_branch.result _ _ c.push_branch.ensures (λ number p. join_pushed g.K.Key.keys g.met.K.Key.laws _ _ _ number c.requires.node p)
