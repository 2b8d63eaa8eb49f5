use Rattle.worker_tests.proofs.stores.attempt.Given as goal

abbrev pub ghosts-open : goal.ghosts-open
ghosts-open g a = record { store = a.parts }
