use Rattle.prefix_index.proofs.copy.+copy.Given as goal

abbrev pub decreases-copy : goal.decreases-copy
decreases-copy g l = l.at
