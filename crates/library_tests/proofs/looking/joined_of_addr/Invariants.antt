use Rattle.library_tests.proofs.looking.joined_of_addr.Given as goal

abbrev pub ghosts-joined_addr_from : goal.ghosts-joined_addr_from
ghosts-joined_addr_from a = record { name = a.blank.name; parts = a.blank.parts }
