use Rattle.answer_cache.proofs.Touched.{found_in, found_touched, touched_same}
use Rattle.answer_cache.proofs.laws.a_look_up_moves_an_entry_alone.Goals as goal

pub returns-clause-found : goal.returns-clause-found
returns-clause-found c = found_in

pub returns-clause-kept : goal.returns-clause-kept
returns-clause-kept c = touched_same

pub returns-clause-again : goal.returns-clause-again
returns-clause-again c = found_touched
