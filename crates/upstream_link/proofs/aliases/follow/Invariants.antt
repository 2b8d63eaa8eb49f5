use Rattle.std.proofs.Common.{◌≡◌, ◌+◌, ◌-◌, ◌≤◌, length}
use Rattle.upstream_link.specs.Chain.{chain_from}
use Rattle.upstream_link.specs.declared.aliases.TheConstants.{CHAIN_LIMIT}
use Rattle.upstream_link.proofs.aliases.follow.Given as goal

abbrev pub invariant-loop : goal.invariant-loop
invariant-loop l = (length l.names ≡ l.counter + 1) × (chain_from (CHAIN_LIMIT - l.counter) l.records l.names l.last ≡ chain_from CHAIN_LIMIT l.fn.records l.fn.first l.fn.name) × (l.counter ≤ CHAIN_LIMIT)
