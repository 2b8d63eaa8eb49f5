use Rattle.prefix_index.proofs.walk.+joined.Given as goal

abbrev pub decreases-joined : goal.decreases-joined
decreases-joined g l = l.at
