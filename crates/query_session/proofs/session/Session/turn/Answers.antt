-- What a turn asks for isn't known yet, and what the query passes it passes.
use Rattle.std.proofs.Common.{ap, ◌∙◌, sym, subst}
use Rattle.policy_snapshot.specs.Stands.{policy_in}
use Rattle.query_session.specs.Session.{AsksAnew, IsPassed, question_in, turn_of}
use Rattle.query_session.specs.State.{SessionState}
use Rattle.query_session.proofs.FreshQuestions.{asks_anew}
use Rattle.query_session.proofs.session.Session.turn.Goals as goal

pub invariant_of-self : goal.invariant_of-self
invariant_of-self c = (
  subst (AsksAnew c.self.inside.facts)
      (sym (c.in_ok-self-inside.ensures ∙ ap question_in (c.in_ok-turn.ensures.turn ∙ ap turn_of (sym c.self.view_is))))
      (asks_anew (policy_in c.self.inside.policy.value) c.self.inside.incoming c.self.inside.facts),
  λ passed. subst (λ (s : SessionState). IsPassed s.policy s.incoming s.facts) (sym c.self.view_is) (c.in_ok-turn.ensures.passes passed),
)

pub returns-clause-anew : goal.returns-clause-anew
returns-clause-anew c =
    subst (AsksAnew c.args.self.now.facts) (sym (ap question_in c.in_ok-turn.ensures.turn)) (asks_anew c.args.self.now.policy c.args.self.now.incoming c.args.self.now.facts)
