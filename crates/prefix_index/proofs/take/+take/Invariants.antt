use Rattle.prefix_index.proofs.take.+take.Given as goal

abbrev pub decreases-take : goal.decreases-take
decreases-take g l = l.at
