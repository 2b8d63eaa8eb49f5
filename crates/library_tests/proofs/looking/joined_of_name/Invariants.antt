use Rattle.library_tests.proofs.looking.joined_of_name.Given as goal

abbrev pub ghosts-joined_name_from : goal.ghosts-joined_name_from
ghosts-joined_name_from a = record { name = a.blank.name; parts = a.blank.parts }
