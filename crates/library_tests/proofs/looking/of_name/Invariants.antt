use Rattle.library_tests.proofs.looking.of_name.Given as goal

abbrev pub ghosts-name_from : goal.ghosts-name_from
ghosts-name_from a = record { name = a.blank.name; parts = a.blank.parts }
