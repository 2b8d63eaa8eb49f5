use Rattle.std.proofs.Common.{◌≡◌, take, option_map}
use Rattle.rpz_precedence.specs.Seen.{hit_seen}
use Rattle.policy_snapshot.specs.Lookup as form
use Rattle.policy_snapshot.proofs.lookup.names_hit.Given as goal

abbrev pub invariant-loop-server : goal.invariant-loop-server
invariant-loop-server l = option_map hit_seen l.best ≡ form.best_over (form.server_hit l.position l.number l.soa l.rules) (take l.server-index l.servers)
