use Rattle.zone_index.proofs.prefixes.Prefixes.longest.Given as goal

abbrev pub ghosts-longest_from : goal.ghosts-longest_from
ghosts-longest_from a = record { name = a.blank.name; parts = a.blank.parts }
