-- What is done about a query.
use Rattle.std.proofs.Common.{◌≡◌, true, IfOk, ap, ◌∙◌, sym, subst}
use Rattle.dns_message.specs.declared.request.Incoming.{Incoming}
use Rattle.dns_message.specs.declared.request.Incoming.TheVariants.{Query as Asks}
use Rattle.policy_snapshot.specs.Policy.{PlainPolicy}
use Rattle.policy_snapshot.specs.Stands.{policy_in}
use Rattle.query_session.specs.Session.{IsPassed, turn_by, turn_of}
use Rattle.query_session.specs.State.{SessionState}
use Rattle.query_session.proofs.session.Session.next_turn.Goals as goal

pub returns-in-Query-clause-turn : goal.returns-in-Query-clause-turn
returns-in-Query-clause-turn c =
    subst (λ t. IfOk c.turn_about.result (λ turn. turn.0 ≡ t))
    (ap (λ policy. turn_by policy (Asks c.in-Query.query) c.self.inside.facts) (ap policy_in c.deref.ensures)
    ∙ ap (λ incoming. turn_by (policy_in c.self.inside.policy.value) incoming c.self.inside.facts) (sym c.in-Query.is)
    ∙ ap turn_of c.self.view_is)
    c.turn_about.ensures.turn

pub returns-in-Query-clause-passes : goal.returns-in-Query-clause-passes
returns-in-Query-clause-passes c =
    subst (λ (s : SessionState). IfOk c.turn_about.result (λ turn. turn.1 ≡ true → IsPassed s.policy s.incoming s.facts)) c.self.view_is
    (subst (λ (incoming : Incoming). IfOk c.turn_about.result (λ turn. turn.1 ≡ true → IsPassed (policy_in c.self.inside.policy.value) incoming c.self.inside.facts)) (sym c.in-Query.is)
    (subst (λ (policy : PlainPolicy). IfOk c.turn_about.result (λ turn. turn.1 ≡ true → IsPassed policy (Asks c.in-Query.query) c.self.inside.facts)) (ap policy_in c.deref.ensures)
    c.turn_about.ensures.passes))
