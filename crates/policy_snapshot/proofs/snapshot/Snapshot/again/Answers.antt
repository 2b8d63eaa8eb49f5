use Rattle.std.proofs.Common.{◌≡◌, ◌∙◌, List, ap, length, map, rules, subst, sym, arith}
use Rattle.std.specs.Arc.{arc_value}
use Rattle.std.proofs.lemmas.List.{length-map}
use Rattle.zone_rows.specs.declared.zone.PlainZone.{PlainZone}
use Rattle.policy_snapshot.specs.Knowing.{KnowsAll}
use Rattle.policy_snapshot.specs.Stands.{HaveRows}
use Rattle.policy_snapshot.specs.Summed.{PlainSummaries}
use Rattle.policy_snapshot.proofs.snapshot.Snapshot.again.Goals as goal

pub invariant_of-result : goal.invariant_of-result
invariant_of-result c =
    let made : map arc_value c.in_ok-zones.zones.items ≡ map arc_value c.self.inside.zones.items = c.in_ok-zones.ensures ∙ ap (map arc_value) c.deref.ensures.value in
    let kept : arc_value c.self.inside.summaries ≡ arc_value c.in_ok-summaries.summaries = search rules in (
      omega (arith, ap length made, length-map c.in_ok-zones.zones.items arc_value, length-map c.self.inside.zones.items arc_value, c.self.invariant.0),
      (
        subst HaveRows (sym made) c.self.invariant.1.0,
        subst (λ (s : PlainSummaries). KnowsAll (map arc_value c.in_ok-zones.zones.items) s) kept (subst (λ (zones : List PlainZone). KnowsAll zones (arc_value c.self.inside.summaries)) (sym made) c.self.invariant.1.1),
      ),
    )
