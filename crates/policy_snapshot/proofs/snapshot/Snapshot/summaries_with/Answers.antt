use Rattle.std.proofs.Common.{◌≡◌, ◌-◌, ◌∙◌, ap, length, map, subst, sym, arith}
use Rattle.std.specs.Prelude.{IfSome, IsSome, slice_set}
use Rattle.std.specs.Arc.{arc_value}
use Rattle.std.proofs.lemmas.List.{length-map}
use Rattle.std.proofs.lemmas.Result.{IfOk-weaker}
use Rattle.zone_index.specs.Changes.{AreChanges}
use Rattle.policy_snapshot.specs.Knowing.{KnowsAll}
use Rattle.policy_snapshot.specs.Policy.{PlainZones, zone_at}
use Rattle.policy_snapshot.specs.Stands.{PlainSnapshot}
use Rattle.policy_snapshot.specs.declared.new_zone.NewZone.{NewZone}
use Rattle.policy_snapshot.proofs.KnownZones.{changes_at, is_there}
use Rattle.policy_snapshot.proofs.snapshot.Snapshot.summaries_with.Goals as goal

pub summaries_after-requires-clause-there : goal.summaries_after-requires-clause-there
summaries_after-requires-clause-there c =
    let next : NewZone = record { zones = c.deref.result; number = c.args.number; zone = c.args.zone } in
    let same : map arc_value c.deref.result.now ≡ c.args.self.now.zones = ap (map arc_value) c.deref.ensures.value ∙ ap (λ (s : PlainSnapshot). s.zones) c.self.view_is in
    is_there next (omega (arith, length-map c.deref.result.now arc_value, ap length c.deref.ensures.value, c.self.invariant.0))
    (subst (λ (zones : PlainZones). IsSome (zone_at zones c.args.number)) (sym same) c.requires.there)

pub summaries_after-requires-clause-known : goal.summaries_after-requires-clause-known
summaries_after-requires-clause-known c =
    let same : map arc_value c.deref.result.now ≡ c.args.self.now.zones = ap (map arc_value) c.deref.ensures.value ∙ ap (λ (s : PlainSnapshot). s.zones) c.self.view_is in
    subst (λ (zones : PlainZones). KnowsAll zones c.summaries.result.now) (sym same) c.summaries.ensures

pub summaries_after-requires-clause-changes : goal.summaries_after-requires-clause-changes
summaries_after-requires-clause-changes c =
    let next : NewZone = record { zones = c.deref.result; number = c.args.number; zone = c.args.zone } in
    let same : map arc_value c.deref.result.now ≡ c.args.self.now.zones = ap (map arc_value) c.deref.ensures.value ∙ ap (λ (s : PlainSnapshot). s.zones) c.self.view_is in
    changes_at next c.args.changes.now
    (subst (λ (zones : PlainZones). IfSome (zone_at zones c.args.number) (λ old. AreChanges old c.args.zone.now c.args.changes.now)) (sym same) c.requires.changes)

pub returns : goal.returns
returns c =
    let same : map arc_value c.deref.result.now ≡ c.args.self.now.zones = ap (map arc_value) c.deref.ensures.value ∙ ap (λ (s : PlainSnapshot). s.zones) c.self.view_is in
    IfOk-weaker c.shared_summaries.result _ _
    (λ shared is. subst (KnowsAll (slice_set c.args.self.now.zones (c.args.number - 1) c.args.zone.now)) (sym is)
    (subst (λ (zones : PlainZones). KnowsAll (slice_set zones (c.args.number - 1) c.args.zone.now) c.in_ok-summaries.summaries) same c.in_ok-summaries.ensures))
    c.shared_summaries.ensures
