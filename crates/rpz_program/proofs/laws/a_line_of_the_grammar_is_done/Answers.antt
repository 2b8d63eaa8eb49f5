use Rattle.rpz_program.proofs.Reached.{line_done}
use Rattle.rpz_program.proofs.laws.a_line_of_the_grammar_is_done.Goals as goal

pub returns : goal.returns
returns c = line_done
