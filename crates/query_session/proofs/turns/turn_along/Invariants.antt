-- What comes next behind the names that were passed over is what comes next behind the first.
use Rattle.std.proofs.Common.{◌≡◌, take, drop}
use Rattle.policy_snapshot.specs.Next.{next_along}
use Rattle.policy_snapshot.specs.Rules.{rules}
use Rattle.policy_snapshot.specs.Stands.{policy_in}
use Rattle.query_session.proofs.turns.turn_along.Given as goal

abbrev pub invariant-loop-place : goal.invariant-loop-place
invariant-loop-place l =
    next_along (rules (policy_in l.policy)) l.query l.facts (take l.place l.names) (drop l.place l.names)
    ≡ next_along (rules (policy_in l.policy)) l.query l.facts (take 1 l.names) (drop 1 l.names)
