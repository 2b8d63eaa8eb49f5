use Rattle.std.proofs.Common.{◌≡◌, ◌∙◌, sym, Option, option_map}
use Rattle.std.proofs.lemmas.Result.{IfOk-weaker}
use Rattle.dns_message.specs.declared.question.Question.{Question}
use Rattle.rpz_precedence.specs.Seen.{hit_seen}
use Rattle.policy_snapshot.specs.Next.{pending}
use Rattle.policy_snapshot.specs.Rules.{rules}
use Rattle.policy_snapshot.specs.Stands.{policy_in}
use Rattle.policy_snapshot.proofs.NeededKinds.{IndexLaw, address_part, main_asked, owner_asked, address_asked}
use Rattle.policy_snapshot.proofs.snapshot.Snapshot.next_question.Goals as goal

pub returns-then-is_some : goal.returns-then-is_some
returns-then-is_some c =
    let law : IndexLaw = record { listed = c.an_index_has_the_rules_of_its_zone.ensures.listed } in
    main_asked law (policy_in c.args.self.now) c.zones-zones.ensures.rows c.args.query.now c.args.facts.now c.args.name.now (option_map hit_seen c.args.hit.now) c.in_ok-main.main c.in_ok-main.ensures (sym c.is_some.ensures ∙ c.if-is_some.true)

pub returns-then-is_some-2 : goal.returns-then-is_some-2
returns-then-is_some-2 c =
    let law : IndexLaw = record { listed = c.an_index_has_the_rules_of_its_zone.ensures.listed } in
    owner_asked law (policy_in c.args.self.now) c.zones-zones.ensures.rows c.args.query.now c.args.facts.now c.args.name.now (option_map hit_seen c.args.hit.now) c.in_ok-main.main c.in_ok-owner.owner c.in_ok-main.ensures (sym c.is_some.ensures ∙ c.if-is_some.false)
    c.in_ok-owner.ensures (sym c.is_some-2.ensures ∙ c.if-is_some-2.true)

pub returns : goal.returns
returns c =
    let law : IndexLaw = record { listed = c.an_index_has_the_rules_of_its_zone.ensures.listed } in
    let hit = option_map hit_seen c.args.hit.now in
    IfOk-weaker c.pending_addresses.result (λ (q : Option Question). q ≡ address_part (policy_in c.args.self.now) c.args.facts.now c.args.name.now hit) (λ (q : Option Question). q ≡ pending (rules (policy_in c.args.self.now)) c.args.query.now c.args.facts.now c.args.name.now hit)
    (λ q e. address_asked law (policy_in c.args.self.now) c.zones-zones.ensures.rows c.args.query.now c.args.facts.now c.args.name.now hit c.in_ok-main.main c.in_ok-owner.owner q c.in_ok-main.ensures (sym c.is_some.ensures ∙ c.if-is_some.false)
    c.in_ok-owner.ensures (sym c.is_some-2.ensures ∙ c.if-is_some-2.false) e)
    c.pending_addresses.ensures
