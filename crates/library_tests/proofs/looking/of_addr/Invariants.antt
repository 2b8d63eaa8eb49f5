use Rattle.library_tests.proofs.looking.of_addr.Given as goal

abbrev pub ghosts-addr_from : goal.ghosts-addr_from
ghosts-addr_from a = record { name = a.blank.name; parts = a.blank.parts }
