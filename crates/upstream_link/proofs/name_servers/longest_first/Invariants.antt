use Rattle.std.proofs.Common.{◌≡◌, ◌+◌, ◌++◌, length}
use Rattle.upstream_link.specs.Servers as form
use Rattle.upstream_link.proofs.name_servers.longest_first.Given as goal

abbrev pub invariant-loop : goal.invariant-loop
invariant-loop l = (length l.current + l.counter ≡ length l.name + 1) × (form.longest_first l.name ≡ l.names ++ form.longest_first l.current)
