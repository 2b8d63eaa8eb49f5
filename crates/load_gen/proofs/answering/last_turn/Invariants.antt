use Rattle.std.proofs.Common.{◌-◌}
use Rattle.upstream_link.specs.declared.facts.TheConstants.{FACT_LIMIT}
use Rattle.load_gen.specs.Turns.{LeadsOn}
use Rattle.load_gen.proofs.answering.last_turn.Given as goal

abbrev pub invariant-loop-count : goal.invariant-loop-count
invariant-loop-count l = LeadsOn FACT_LIMIT (FACT_LIMIT - l._count) l.initial.session l.session
