use Rattle.prefix_index.proofs.Putting.{told}
use Rattle.prefix_index.proofs.Taking.{join_pushed}
use Rattle.prefix_index.proofs.take.join.Goals as goal

pub returns-then-is_present : goal.returns-then-is_present
returns-then-is_present g c =
    told c.push.result _ _ c.push.ensures (λ number p. join_pushed g.K.Key.keys g.met.K.Key.laws _ _ _ number c.requires.node p)
