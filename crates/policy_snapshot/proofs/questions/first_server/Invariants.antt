use Rattle.std.proofs.Common.{◌≡◌, take, map, option_copied}
use Rattle.policy_snapshot.specs.Asking.{first_server}
use Rattle.policy_snapshot.proofs.questions.first_server.Given as goal

abbrev pub invariant-loop-list : goal.invariant-loop-list
invariant-loop-list l = option_copied l.first ≡ first_server l.facts (map (λ list. list.now) (take l.list-index l.list-items))
