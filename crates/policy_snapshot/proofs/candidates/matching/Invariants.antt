use Rattle.policy_snapshot.proofs.candidates.matching.Given as goal

abbrev pub ghosts-matching_from : goal.ghosts-matching_from
ghosts-matching_from a = record { name = a.blank.name; parts = a.blank.parts }
