use Rattle.prefix_index.proofs.put.+put.Given as goal

abbrev pub decreases-put : goal.decreases-put
decreases-put g l = l.at
