use Rattle.bench.proofs.transfers.run.Given as goal

abbrev pub ghosts-take_over : goal.ghosts-take_over
ghosts-take_over g a = record { store = a.parts }
