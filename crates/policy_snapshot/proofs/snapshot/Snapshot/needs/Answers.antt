use Rattle.std.proofs.Common.{ℕ, ◌≡◌, ◌==◌, ◌+◌, ◌∙◌, ◌&&◌, ap, sym, refl, arith, option_map, true, false, Bool}
use Rattle.std.specs.Arc.{arc_value}
use Rattle.rpz_precedence.specs.Seen.{hit_seen}
use Rattle.summary_index.specs.Zones.{has_zone}
use Rattle.policy_snapshot.specs.Lookup.{zones_need}
use Rattle.policy_snapshot.proofs.CandidateLoops.{has_here, none_needed}
use Rattle.policy_snapshot.proofs.NeedLoops.{need_here, need_later, need_nowhere}
use Rattle.policy_snapshot.proofs.snapshot.Snapshot.needs.Goals.{else-has-via-then-has+else-could_rule, else-has-via-else-has}
use Rattle.policy_snapshot.proofs.snapshot.Snapshot.needs.Goals as goal

pub loop-zone-init : goal.loop-zone-init
loop-zone-init c = record { count = refl; same = refl }

pub overflow_add-number : goal.overflow_add-number
overflow_add-number c = omega (arith, c.loop-zone.invariant.count, c.loop-zone-test.true, c.zones-all.ensures.limit)

both : (a b c d : Bool) → a ≡ c → b ≡ d → (a && b) ≡ (c && d)
both a b c d e f i = e i && f i

first : (a b : Bool) → a ≡ false → (a && b) ≡ false
first a b e i = e i && b

pub returns-then-could_rule : goal.returns-then-could_rule
returns-then-could_rule c =
    need_here arc_value c.args.self.now.overrides c.args.kind (option_map hit_seen c.args.hit.now) c.zones-all.result.now c.loop-zone.number c.loop-zone._zone-index c._zone-item.result c.loop-zone-test.true c._zone-item.is c.loop-zone.invariant
    (both _ _ true true (sym (has_here arc_value c.zones-all.result.now c.args.self.now.zones c.zones-all.ensures.zones c.zones-all.ensures.limit c.summaries.result.now c.summaries.ensures c.loop-zone._zone-index c.loop-zone.number c._zone-item.result c.loop-zone-test.true c._zone-item.is c.loop-zone.invariant.count c.args.kind) ∙ ap (λ (m : ℕ). has_zone m (c.loop-zone.number + 1)) (sym c.having-zones.ensures) ∙ sym c.has.ensures ∙ c.if-has.true) (sym c.could_rule.ensures ∙ c.if-could_rule.true))
    ∙ ap (zones_need c.args.self.now.overrides c.args.kind 1 (option_map hit_seen c.args.hit.now)) c.zones-all.ensures.zones

pub loop-zone-preserved : goal.loop-zone-preserved
loop-zone-preserved c =
    need_later arc_value c.args.self.now.overrides c.args.kind (option_map hit_seen c.args.hit.now) c.zones-all.result.now c.loop-zone.number c.loop-zone._zone-index c._zone-item.result c.loop-zone-test.true c._zone-item.is c.loop-zone.invariant
    (elim c.else-has.branch [
      | else-has-via-then-has+else-could_rule w ↦ both _ _ true false (sym (has_here arc_value c.zones-all.result.now c.args.self.now.zones c.zones-all.ensures.zones c.zones-all.ensures.limit c.summaries.result.now c.summaries.ensures c.loop-zone._zone-index c.loop-zone.number c._zone-item.result c.loop-zone-test.true c._zone-item.is c.loop-zone.invariant.count c.args.kind) ∙ ap (λ (m : ℕ). has_zone m (c.loop-zone.number + 1)) (sym c.having-zones.ensures) ∙ sym c.has.ensures ∙ w.if-has.true) (sym w.could_rule.ensures ∙ w.if-could_rule.false)
      | else-has-via-else-has w ↦ first _ _ (sym (has_here arc_value c.zones-all.result.now c.args.self.now.zones c.zones-all.ensures.zones c.zones-all.ensures.limit c.summaries.result.now c.summaries.ensures c.loop-zone._zone-index c.loop-zone.number c._zone-item.result c.loop-zone-test.true c._zone-item.is c.loop-zone.invariant.count c.args.kind) ∙ ap (λ (m : ℕ). has_zone m (c.loop-zone.number + 1)) (sym c.having-zones.ensures) ∙ sym c.has.ensures ∙ w.if-has.false)
    ])

pub returns : goal.returns
returns c = need_nowhere arc_value c.args.self.now.overrides c.args.kind (option_map hit_seen c.args.hit.now) c.zones-all.result.now c.loop-zone.number c.loop-zone._zone-index c.loop-zone-test.false c.loop-zone.invariant ∙ ap (zones_need c.args.self.now.overrides c.args.kind 1 (option_map hit_seen c.args.hit.now)) c.zones-all.ensures.zones

pub has-requires-clause-some : goal.has-requires-clause-some
has-requires-clause-some c = omega (arith, c.loop-zone.invariant.count)

pub has-requires-clause-within : goal.has-requires-clause-within
has-requires-clause-within c = omega (arith, c.loop-zone.invariant.count, c.loop-zone-test.true, c.zones-all.ensures.limit)

pub returns-then-is_empty : goal.returns-then-is_empty
returns-then-is_empty c =
    sym (none_needed arc_value c.zones-all.result.now c.args.self.now.zones c.zones-all.ensures.zones c.zones-all.ensures.limit c.summaries.result.now c.summaries.ensures c.args.self.now.overrides c.args.kind (option_map hit_seen c.args.hit.now)
    (ap (λ (m : ℕ). m == 0) (sym c.having-zones.ensures) ∙ sym c.is_empty.ensures ∙ c.if-is_empty.true))
