use Rattle.load_gen.proofs.Ruled.{HasDrawn}
use Rattle.load_gen.proofs.rules.first_rules.Given as goal

abbrev pub invariant-loop-place : goal.invariant-loop-place
invariant-loop-place l = HasDrawn l.initial.draws.state l._place l.rows.items l.draws.state
