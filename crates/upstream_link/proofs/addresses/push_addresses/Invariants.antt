use Rattle.std.proofs.Common.{◌≡◌, ◌++◌}
use Rattle.upstream_link.specs.Servers.{addresses_in}
use Rattle.upstream_link.proofs.addresses.push_addresses.Given as goal

abbrev pub invariant-loop-rr : goal.invariant-loop-rr
invariant-loop-rr l =
    (goal.iterator-loop-rr).can_next l.rr-iterator × (goal.iterator-loop-rr).is_finite l.rr-iterator
    × (l.all.items ++ addresses_in l.owner l.rr-iterator ≡ l.fn.all.items ++ addresses_in l.owner l.fn.records)
