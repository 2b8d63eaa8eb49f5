use Rattle.rpz_core.proofs.Turns.{HasTurned}
use Rattle.rpz_core.proofs.resolving.resolve.Given as goal

abbrev pub invariant-loop-count : goal.invariant-loop-count
invariant-loop-count l = HasTurned l.now l.count l.initial.cache l.cache l.initial.session l.session
