use Rattle.std.proofs.Common.{ap, subst, sym}
use Rattle.std.specs.Arc.{arc_value}
use Rattle.policy_snapshot.specs.Knowing.{KnowsAll}
use Rattle.policy_snapshot.specs.Policy.{PlainZones}
use Rattle.policy_snapshot.specs.Stands.{PlainSnapshot}
use Rattle.policy_snapshot.specs.Summed.{PlainSummaries}
use Rattle.policy_snapshot.proofs.snapshot.Snapshot.summaries.Goals as goal

pub returns : goal.returns
returns c =
    subst (λ (s : PlainSummaries). KnowsAll c.args.self.now.zones s) (sym c.deref.ensures)
    (subst (λ (zones : PlainZones). KnowsAll zones (arc_value c.self.inside.summaries)) (ap (λ (s : PlainSnapshot). s.zones) c.self.view_is) c.self.invariant.1.1)
