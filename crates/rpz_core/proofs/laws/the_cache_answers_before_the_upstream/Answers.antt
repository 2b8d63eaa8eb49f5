use Rattle.rpz_core.proofs.Answered.{resolve_asks, resolve_explained}
use Rattle.rpz_core.proofs.laws.the_cache_answers_before_the_upstream.Goals as goal

pub returns-clause-turn : goal.returns-clause-turn
returns-clause-turn c = λ now policy incoming cached facts. (resolve_explained now policy incoming cached facts).turn

pub returns-clause-known : goal.returns-clause-known
returns-clause-known c = λ now policy incoming cached facts. (resolve_explained now policy incoming cached facts).known

pub returns-clause-asked : goal.returns-clause-asked
returns-clause-asked c = λ now policy incoming cached facts question asks. resolve_asks now policy incoming cached facts question asks

pub returns-clause-entries : goal.returns-clause-entries
returns-clause-entries c = λ now policy incoming cached facts. (resolve_explained now policy incoming cached facts).same
