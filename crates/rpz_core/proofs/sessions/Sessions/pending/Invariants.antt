use Rattle.rpz_core.proofs.Flags.{AreFlags}
use Rattle.rpz_core.proofs.sessions.Sessions.pending.Given as goal

abbrev pub invariant-loop-worker : goal.invariant-loop-worker
invariant-loop-worker l = AreFlags l.self-inside.workers.items l.pending l.worker
