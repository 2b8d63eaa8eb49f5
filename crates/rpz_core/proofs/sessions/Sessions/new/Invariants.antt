use Rattle.std.proofs.Common.{◌≡◌, None, replicate}
use Rattle.rpz_core.proofs.sessions.Sessions.new.Given as goal

abbrev pub invariant-loop-worker : goal.invariant-loop-worker
invariant-loop-worker l = l.workers.items ≡ replicate l.worker None
