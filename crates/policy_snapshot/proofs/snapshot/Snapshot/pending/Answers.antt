use Rattle.std.proofs.Common.{◌≡◌, ◌∙◌, sym, ap, ℕ, None, Option, option_map}
use Rattle.std.proofs.lemmas.Result.{IfOk-weaker}
use Rattle.dns_message.specs.declared.question.Question.{Question}
use Rattle.rpz_precedence.specs.Best.{best}
use Rattle.rpz_precedence.specs.Seen.{hit_seen}
use Rattle.policy_snapshot.specs.Hits.{hits}
use Rattle.policy_snapshot.specs.Next.{pending}
use Rattle.policy_snapshot.specs.Rules.{rules}
use Rattle.policy_snapshot.specs.Settled.{IsSettled}
use Rattle.policy_snapshot.specs.Stands.{policy_in}
use Rattle.policy_snapshot.proofs.snapshot.Snapshot.pending.Goals as goal

pub returns-clause-settled : goal.returns-clause-settled
returns-clause-settled c =
    let policy = policy_in c.args.self.now in
    let query = c.args.query.now in
    let facts = c.args.facts.now in
    let name = c.args.name.now in
    let hit = option_map hit_seen c.args.hit.now in
    IfOk-weaker c.next_question.result (λ (q : Option Question). q ≡ pending (rules policy) query facts name hit)
    (λ (q : Option Question). (position : ℕ) → q ≡ None → hit ≡ best (hits (rules policy) query facts position name) → IsSettled (rules policy) query facts position name)
    (λ q is position none found more extends.
    c.nothing_unasked_could_matter.ensures.best policy query facts more position name c.zones-zones.ensures.rows extends
    (ap (pending (rules policy) query facts name) (sym found) ∙ sym is ∙ none))
    c.next_question.ensures
