use Rattle.std.proofs.Common.{◌≡◌, take, option_map}
use Rattle.rpz_precedence.specs.Seen.{hit_seen}
use Rattle.policy_snapshot.specs.Lookup as form
use Rattle.policy_snapshot.proofs.lookup.each_address_hit.Given as goal

abbrev pub invariant-loop-addr : goal.invariant-loop-addr
invariant-loop-addr l = option_map hit_seen l.best ≡ form.best_over (form.address_hit l.position l.number l.soa l.rules) (take l.addr-index l.addresses)
