use Rattle.std.proofs.Common.{◌≡◌, List}
use Rattle.std.specs.Arc.{arc_value}
use Rattle.policy_snapshot.specs.Knowing.{KnowsAll}
use Rattle.policy_snapshot.specs.Stands.{HaveRows}
use Rattle.policy_snapshot.specs.Summed.{PlainSummaries}
use Rattle.policy_snapshot.proofs.KnownZones.{knows_none}
use Rattle.policy_snapshot.proofs.ZoneLoops.{one_more, all_made, same_length}
use Rattle.policy_snapshot.proofs.Standing.{rows_none, unloaded_in}
use Rattle.zone_rows.specs.Content.{unloaded}
use Rattle.policy_override.specs.declared.zone_set.ZoneSet.{ZoneSet}
use Rattle.policy_override.specs.ZoneSet.{origins_in, overrides_in}
use Rattle.zone_rows.specs.declared.zone.PlainZone.{PlainZone}
use Rattle.std.proofs.Common.{◌∙◌, map, sym, subst, arith}
use Rattle.policy_snapshot.proofs.snapshot.Snapshot.start.Goals as goal

abbrev fresh : ZoneSet → PlainZone
fresh set = unloaded set.origin

pub loop-set-preserved : goal.loop-set-preserved
loop-set-preserved c =
    one_more fresh arc_value c.args.settings.now c.loop-set.zones.items c.push.new.self.items c.loop-set.set-index c.set-item.result c.in_ok-empty_zone.field-0 c.loop-set-test.true c.set-item.is c.in_ok-empty_zone.ensures c.loop-set.invariant c.in_ok-push.ensures.items

pub invariant_of-result : goal.invariant_of-result
invariant_of-result c =
    let settings = c.args.settings.now in
    let made = all_made fresh arc_value settings c.loop-set.zones.items c.loop-set.set-index c.loop-set-test.false c.loop-set.invariant ∙ unloaded_in settings in (
      omega (arith, same_length fresh arc_value settings c.loop-set.zones.items (made ∙ sym (unloaded_in settings)), c.requires),
      (
        subst HaveRows (sym made) (rows_none (origins_in settings)),
        subst (λ (zones : List PlainZone). KnowsAll zones (arc_value c.in_ok-summaries.summaries)) (sym made)
            (subst (λ (s : PlainSummaries). KnowsAll (map unloaded (origins_in settings)) s) (sym (c.in_ok-summaries.ensures ∙ c.no_summaries.ensures)) (knows_none (origins_in settings))),
      ),
    )

pub returns : goal.returns
returns c =
    let settings = c.args.settings.now in
    let made = all_made fresh arc_value settings c.loop-set.zones.items c.loop-set.set-index c.loop-set-test.false c.loop-set.invariant ∙ unloaded_in settings in
    let over : arc_value c.in_ok-overrides.overrides ≡ overrides_in settings = c.in_ok-overrides.ensures.ok ∙ c.in_ok-of.ensures in
    λ i. record { zones = made i; overrides = over i; accepted = 0 }
