use Rattle.prefix_index.proofs.walk.+get.Given as goal

abbrev pub decreases-get : goal.decreases-get
decreases-get g l = l.at
