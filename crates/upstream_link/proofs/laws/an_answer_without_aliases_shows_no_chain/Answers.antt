use Rattle.upstream_link.proofs.ChainLemmas.{alone_shown}
use Rattle.upstream_link.proofs.laws.an_answer_without_aliases_shows_no_chain.Goals as goal

pub returns : goal.returns
returns c = alone_shown
