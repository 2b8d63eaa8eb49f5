use Rattle.load_gen.proofs.Asked.{HasAsked}
use Rattle.load_gen.proofs.queries.first_queries.Given as goal

abbrev pub invariant-loop-place : goal.invariant-loop-place
invariant-loop-place l = HasAsked l.initial.draws.state l.place l.queries.items l.draws.state
