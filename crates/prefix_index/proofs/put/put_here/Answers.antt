use Rattle.prefix_index.proofs.Putting.{put_same, told}
use Rattle.prefix_index.proofs.put.put_here.Goals as goal

pub returns : goal.returns
returns g c =
    told c.push_value.result _ _ c.push_value.ensures (λ number p. put_same g.K.Key.keys g.met.K.Key.laws _ _ _ _ _ number c.requires.well c.requires.is_at p)
