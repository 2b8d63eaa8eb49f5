use Rattle.alloc_tests.proofs.publish_calls.with_store.Given as goal

abbrev pub ghosts-over_store : goal.ghosts-over_store
ghosts-over_store g a = record { store = a.parts }
