use Rattle.query_session.proofs.KeptFacts.{said_kept}
use Rattle.query_session.proofs.laws.what_is_obtained_is_kept.Goals as goal

pub returns-clause-bytes : goal.returns-clause-bytes
returns-clause-bytes c = said_kept
