use Rattle.policy_snapshot.proofs.candidates.containing.Given as goal

abbrev pub ghosts-containing_from : goal.ghosts-containing_from
ghosts-containing_from a = record { name = a.blank.name; parts = a.blank.parts }
