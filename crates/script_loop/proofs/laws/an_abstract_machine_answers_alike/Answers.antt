use Rattle.script_loop.proofs.Abstraction.{run_of-along, transcript-along, verdict-along}
use Rattle.script_loop.proofs.laws.an_abstract_machine_answers_alike.Goals as goal

pub returns-clause-run : goal.returns-clause-run
returns-clause-run g c = λ too_many too_long view step abstract_step same machine lines. run_of-along too_many too_long view step abstract_step same (1, machine) lines

pub returns-clause-transcript : goal.returns-clause-transcript
returns-clause-transcript g c = λ too_many too_long view step abstract_step same machine script. transcript-along too_many too_long view step abstract_step same machine script

pub returns-clause-verdict : goal.returns-clause-verdict
returns-clause-verdict g c = λ too_many too_long view step abstract_step same machine script. verdict-along too_many too_long view step abstract_step same machine script
