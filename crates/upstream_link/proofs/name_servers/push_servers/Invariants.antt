use Rattle.std.proofs.Common.{◌≡◌, ◌++◌}
use Rattle.upstream_link.specs.Servers.{servers_in}
use Rattle.upstream_link.proofs.name_servers.push_servers.Given as goal

abbrev pub invariant-loop-rr : goal.invariant-loop-rr
invariant-loop-rr l =
    (goal.iterator-loop-rr).can_next l.rr-iterator × (goal.iterator-loop-rr).is_finite l.rr-iterator
    × (l.names ++ servers_in l.owner l.rr-iterator ≡ l.fn.names ++ servers_in l.owner l.fn.records)
