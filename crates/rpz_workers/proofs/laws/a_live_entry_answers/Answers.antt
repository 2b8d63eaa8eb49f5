use Rattle.rpz_workers.proofs.LiveEntries.{live_entry_answers}
use Rattle.rpz_workers.proofs.laws.a_live_entry_answers.Goals as goal

pub returns : goal.returns
returns g c = live_entry_answers g.L.Link.gave
