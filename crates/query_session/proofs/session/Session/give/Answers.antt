use Rattle.std.proofs.Common.{[], ◌∷◌, ap, subst, sym}
use Rattle.policy_snapshot.specs.Stands.{HaveRows, policy_in}
use Rattle.query_session.specs.Session.{AsksAnew}
use Rattle.query_session.proofs.PassedName.{still_passed}
use Rattle.query_session.proofs.session.Session.give.Goals as goal

pub invariant_of-self-in-Ok : goal.invariant_of-self-in-Ok
invariant_of-self-in-Ok c = (
  subst (AsksAnew c.push.new.self) (sym c.take.ensures.after) tt,
  λ passed. still_passed (policy_in c.self.inside.policy.value) c.self.inside.incoming c.self.inside.facts c.push.new.self
      (subst HaveRows (ap (λ s. s.zones) c.deref.ensures) c.zone_count-zones.ensures.rows)
      c.nothing_unasked_could_matter.ensures.best c.nothing_unasked_could_matter.ensures.pending
      ((c.in-Some.question, c.args.fact) ∷ [], c.in-Ok.ensures.ok) (c.self.invariant.1 passed),
)
