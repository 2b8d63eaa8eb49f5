use Rattle.rpz_program.proofs.Statuses.{verdict_of}
use Rattle.rpz_program.proofs.replaying.replayed.Goals as goal

pub returns-clause-only : goal.returns-clause-only
returns-clause-only c = λ memory.
    verdict_of c.in-Err.stop _ c.args.script.items _ _ _ c.new-source.ensures c.in-Err.ensures.ends c.in-Err.ensures.fault c.of_stop.result c.of_stop.ensures memory
