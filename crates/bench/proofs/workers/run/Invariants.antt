use Rattle.bench.proofs.workers.run.Given as goal

abbrev pub ghosts-serve : goal.ghosts-serve
ghosts-serve g a = record { store = a.parts }
