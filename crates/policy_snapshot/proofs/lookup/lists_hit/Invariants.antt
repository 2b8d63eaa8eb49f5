use Rattle.std.proofs.Common.{◌≡◌, take, map, option_map}
use Rattle.rpz_precedence.specs.Seen.{hit_seen}
use Rattle.policy_snapshot.specs.Lookup as form
use Rattle.policy_snapshot.proofs.lookup.lists_hit.Given as goal

abbrev pub invariant-loop-list : goal.invariant-loop-list
invariant-loop-list l = option_map hit_seen l.best ≡ form.best_over (form.best_over (form.server_hit l.position l.number l.soa l.rules)) (map (λ list. list.now) (take l.list-index l.lists))
