use Rattle.std.proofs.Common.{◌≡◌}
use Rattle.std.specs.List.{find}
use Rattle.upstream_link.specs.Chain.{alias_of, is_alias_of}
use Rattle.upstream_link.proofs.aliases.alias_of.Given as goal

abbrev pub invariant-loop-rr : goal.invariant-loop-rr
invariant-loop-rr l =
    (goal.iterator-loop-rr).can_next l.rr-iterator × (goal.iterator-loop-rr).is_finite l.rr-iterator
    × (find (is_alias_of l.name) l.rr-iterator ≡ alias_of l.records l.name)
