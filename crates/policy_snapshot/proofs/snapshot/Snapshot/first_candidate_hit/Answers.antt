use Rattle.std.proofs.Common.{◌+◌, ◌∙◌, ap, sym, refl, arith}
use Rattle.std.specs.Arc.{arc_value}
use Rattle.policy_snapshot.specs.Lookup.{ruled_hit, zones_hit}
use Rattle.policy_snapshot.specs.Sight.{sight_seen}
use Rattle.policy_snapshot.proofs.CandidateLoops.{none_hit, passed_here}
use Rattle.policy_snapshot.proofs.HitLoops.{hit_here, hit_later, hit_nowhere}
use Rattle.policy_snapshot.proofs.snapshot.Snapshot.first_candidate_hit.Goals as goal

pub loop-zone-init : goal.loop-zone-init
loop-zone-init c = record { count = refl; same = refl }

pub overflow_add-number : goal.overflow_add-number
overflow_add-number c = omega (arith, c.loop-zone.invariant.count, c.loop-zone-test.true, c.zones-all.ensures.limit)

pub returns-then-is_some : goal.returns-then-is_some
returns-then-is_some c =
    hit_here arc_value c.overrides-overrides.result.now (sight_seen c.args.sight.now) c.zones-all.result.now c.loop-zone.number c.loop-zone.zone-index c.zone-item.result c.ruled_hit-hit.result c.loop-zone-test.true c.zone-item.is c.loop-zone.invariant
    (c.ruled_hit-hit.ensures ∙ ap (ruled_hit c.overrides-overrides.result.now (c.loop-zone.number + 1) (sight_seen c.args.sight.now)) c.deref.ensures) (sym c.is_some.ensures ∙ c.if-is_some.true)
    ∙ (λ i. zones_hit (c.overrides-overrides.ensures i) 1 (sight_seen c.args.sight.now) (c.zones-all.ensures.zones i))

pub loop-zone-preserved : goal.loop-zone-preserved
loop-zone-preserved c =
    hit_later arc_value c.overrides-overrides.result.now (sight_seen c.args.sight.now) c.zones-all.result.now c.loop-zone.number c.loop-zone.zone-index c.zone-item.result c.ruled_hit-hit.result c.loop-zone-test.true c.zone-item.is c.loop-zone.invariant
    (c.ruled_hit-hit.ensures ∙ ap (ruled_hit c.overrides-overrides.result.now (c.loop-zone.number + 1) (sight_seen c.args.sight.now)) c.deref.ensures) (sym c.is_some.ensures ∙ c.if-is_some.false)

pub returns : goal.returns
returns c = hit_nowhere arc_value c.overrides-overrides.result.now (sight_seen c.args.sight.now) c.zones-all.result.now c.loop-zone.number c.loop-zone.zone-index c.loop-zone-test.false c.loop-zone.invariant ∙ (λ i. zones_hit (c.overrides-overrides.ensures i) 1 (sight_seen c.args.sight.now) (c.zones-all.ensures.zones i))

pub ruled_hit-hit-requires-clause-passed : goal.ruled_hit-hit-requires-clause-passed
ruled_hit-hit-requires-clause-passed c = λ none.
    passed_here arc_value c.zones-all.result.now c.args.self.now.zones c.zones-all.ensures.zones c.zones-all.ensures.limit c.summaries-summaries.result.now c.summaries-summaries.ensures c.loop-zone.zone-index c.loop-zone.number c.zone-item.result c.loop-zone-test.true c.zone-item.is c.loop-zone.invariant.count
    c.a_zone_that_is_no_candidate_has_no_hit.ensures (sight_seen c.args.sight.now) c.deref.result.now (record { qname = c.in_order.ensures.keys; nsdname = c.in_order-2.ensures.keys }) c.zones-all.ensures.rows c.deref.ensures
    (sym (c.candidates-zones.ensures (c.loop-zone.number + 1)) ∙ none)

pub returns-then-is_empty : goal.returns-then-is_empty
returns-then-is_empty c =
    sym (none_hit arc_value c.zones-all.result.now c.args.self.now.zones c.zones-all.ensures.zones c.zones-all.ensures.limit c.summaries-summaries.result.now c.summaries-summaries.ensures c.a_zone_that_is_no_candidate_has_no_hit.ensures
    c.args.self.now.overrides (sight_seen c.args.sight.now) c.candidates-zones.result (record { qname = c.in_order.ensures.keys; nsdname = c.in_order-2.ensures.keys }) c.zones-all.ensures.rows c.candidates-zones.ensures (sym c.is_empty.ensures ∙ c.if-is_empty.true))
