use Rattle.prefix_index.proofs.walk.+collect.Given as goal

abbrev pub decreases-collect : goal.decreases-collect
decreases-collect g l = l.at
