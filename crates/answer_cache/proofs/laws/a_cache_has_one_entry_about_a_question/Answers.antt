use Rattle.answer_cache.proofs.Apart.{apart_none, apart_looked_up, apart_kept, found_only}
use Rattle.answer_cache.proofs.laws.a_cache_has_one_entry_about_a_question.Goals as goal

pub returns-clause-none : goal.returns-clause-none
returns-clause-none c = apart_none

pub returns-clause-look_up : goal.returns-clause-look_up
returns-clause-look_up c = apart_looked_up

pub returns-clause-keep : goal.returns-clause-keep
returns-clause-keep c = apart_kept

pub returns-clause-only : goal.returns-clause-only
returns-clause-only c = found_only
