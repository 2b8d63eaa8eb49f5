use Rattle.rpz_program.proofs.server.serve.Given as goal

abbrev pub ghosts-serve_over : goal.ghosts-serve_over
ghosts-serve_over g a = record { store = a.parts }
