use Rattle.zone_index.proofs.patterns.Patterns.best.Given as goal

abbrev pub ghosts-best_from : goal.ghosts-best_from
ghosts-best_from a = record { name = a.blank.name; parts = a.blank.parts }
