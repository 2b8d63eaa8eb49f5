use Rattle.prefix_index.proofs.walk.+longest.Given as goal

abbrev pub decreases-longest : goal.decreases-longest
decreases-longest g l = l.at
