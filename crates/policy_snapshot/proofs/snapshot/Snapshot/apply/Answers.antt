use Rattle.std.proofs.Common.{◌≡◌, ◌-◌, ◌∙◌, Option, rules, ap, length, map, subst, sym, arith}
use Rattle.std.specs.Prelude.{IfSome, slice_set}
use Rattle.std.specs.Arc.{arc_value}
use Rattle.std.proofs.lemmas.Bool.Decides.{nat_tests}
use Rattle.std.proofs.lemmas.List.{length-map, length-set}
use Rattle.zone_index.specs.Changes.{AreChanges}
use Rattle.zone_rows.specs.declared.zone.PlainZone.{PlainZone}
use Rattle.policy_snapshot.specs.Knowing.{KnowsAll}
use Rattle.policy_snapshot.specs.Policy.{PlainZones}
use Rattle.policy_snapshot.specs.Stands.{HaveRows, PlainSnapshot, next_count}
use Rattle.policy_snapshot.proofs.KnownZones.{number_there}
use Rattle.policy_snapshot.proofs.Standing.{IsNext, exact_after, fault_told, rows_set, seen_there, stands_after}
use Rattle.policy_snapshot.proofs.snapshot.Snapshot.apply.Goals as goal

pub summaries_with-requires-clause-changes : goal.summaries_with-requires-clause-changes
summaries_with-requires-clause-changes c =
    let zones : map arc_value c.self.inside.zones.items ≡ c.args.self.now.zones = ap (λ (s : PlainSnapshot). s.zones) c.self.view_is in
    subst (λ (found : Option PlainZone). IfSome found (λ old. AreChanges old c.in_ok-zone.zone c.in_ok-zone.changes))
    (sym (seen_there arc_value c.args.self.now.zones c.self.inside.zones.items c.args.number c.index.result.now c.deref-old.result.now zones c.requires c.index.ensures c.deref-old.ensures))
    c.in_ok-zone.ensures.changed.1

pub returns-in_err-zone-clause-exact : goal.returns-in_err-zone-clause-exact
returns-in_err-zone-clause-exact c =
    let zones : map arc_value c.self.inside.zones.items ≡ c.args.self.now.zones = ap (λ (s : PlainSnapshot). s.zones) c.self.view_is in
    fault_told c.args.self.now c.args.number c.deref-old.result.now c.args.transfer c.from_residual.result c.in_err-zone.field-0.0 c.from_residual.ensures.1
    (seen_there arc_value c.args.self.now.zones c.self.inside.zones.items c.args.number c.index.result.now c.deref-old.result.now zones c.requires c.index.ensures c.deref-old.ensures)
    c.in_err-zone.ensures.changed

pub with_zone_at-requires : goal.with_zone_at-requires
with_zone_at-requires c =
    let zones : map arc_value c.self.inside.zones.items ≡ c.args.self.now.zones = ap (λ (s : PlainSnapshot). s.zones) c.self.view_is in
    let there = number_there c.args.self.now.zones c.args.number c.requires in
    omega (arith, there.0, there.1, ap length zones, length-map c.self.inside.zones.items arc_value, ap length c.deref-2.ensures.value)

pub invariant_of-result : goal.invariant_of-result
invariant_of-result c =
    let before : PlainZones = map arc_value c.self.inside.zones.items in
    let zones : map arc_value c.self.inside.zones.items ≡ c.args.self.now.zones = ap (λ (s : PlainSnapshot). s.zones) c.self.view_is in
    let set : map arc_value c.in_ok-zones.zones.items ≡ slice_set before (c.args.number - 1) c.in_ok-zone.zone =
    c.in_ok-zones.ensures ∙ ap (λ l. slice_set (map arc_value l) (c.args.number - 1) c.in_ok-zone.zone) c.deref-2.ensures.value in
    let all : slice_set c.args.self.now.zones (c.args.number - 1) c.in_ok-zone.zone ≡ map arc_value c.in_ok-zones.zones.items =
    ap (λ (z : PlainZones). slice_set z (c.args.number - 1) c.in_ok-zone.zone) (sym zones) ∙ sym set in (
      omega (arith, ap length set, length-set before (c.args.number - 1) c.in_ok-zone.zone, length-map c.in_ok-zones.zones.items arc_value, length-map c.self.inside.zones.items arc_value, c.self.invariant.0),
      (
        subst HaveRows (sym set) (rows_set before (c.args.number - 1) c.in_ok-zone.zone c.self.invariant.1.0 c.index-index.ensures.rows),
        subst (λ (z : PlainZones). KnowsAll z (arc_value c.in_ok-summaries.summaries)) all c.in_ok-summaries.ensures,
      ),
    )

pub returns-clause-exact : goal.returns-clause-exact
returns-clause-exact c =
    let counted : next_count c.self.inside.accepted ≡ c.saturating_add.result = grind (arith, nat_tests) in
    let is : IsNext arc_value c.args.self.now c.self.inside.zones.items c.in_ok-zones.zones.items (arc_value c.self.inside.overrides) (arc_value c.in_ok-overrides.overrides) c.self.inside.accepted c.saturating_add.result c.args.number c.args.transfer c.index.result.now c.deref-old.result.now c.in_ok-zone.zone = record {
      view = c.self.view_is;
      carried_is = search rules;
      some = c.requires;
      is_item = c.index.ensures;
      is_seen = c.deref-old.ensures;
      applied = c.in_ok-zone.ensures.changed.0;
      set = c.in_ok-zones.ensures ∙ ap (λ l. slice_set (map arc_value l) (c.args.number - 1) c.in_ok-zone.zone) c.deref-2.ensures.value;
      counted = counted;
    } in
    exact_after arc_value c.args.self.now c.self.inside.zones.items c.in_ok-zones.zones.items (arc_value c.self.inside.overrides) (arc_value c.in_ok-overrides.overrides) c.self.inside.accepted c.saturating_add.result c.args.number c.args.transfer c.index.result.now c.deref-old.result.now c.in_ok-zone.zone is

pub returns-clause-stands : goal.returns-clause-stands
returns-clause-stands c entries stands =
    let counted : next_count c.self.inside.accepted ≡ c.saturating_add.result = grind (arith, nat_tests) in
    let is : IsNext arc_value c.args.self.now c.self.inside.zones.items c.in_ok-zones.zones.items (arc_value c.self.inside.overrides) (arc_value c.in_ok-overrides.overrides) c.self.inside.accepted c.saturating_add.result c.args.number c.args.transfer c.index.result.now c.deref-old.result.now c.in_ok-zone.zone = record {
      view = c.self.view_is;
      carried_is = search rules;
      some = c.requires;
      is_item = c.index.ensures;
      is_seen = c.deref-old.ensures;
      applied = c.in_ok-zone.ensures.changed.0;
      set = c.in_ok-zones.ensures ∙ ap (λ l. slice_set (map arc_value l) (c.args.number - 1) c.in_ok-zone.zone) c.deref-2.ensures.value;
      counted = counted;
    } in
    stands_after arc_value c.args.self.now c.self.inside.zones.items c.in_ok-zones.zones.items (arc_value c.self.inside.overrides) (arc_value c.in_ok-overrides.overrides) c.self.inside.accepted c.saturating_add.result c.args.number c.args.transfer c.index.result.now c.deref-old.result.now c.in_ok-zone.zone is entries stands
