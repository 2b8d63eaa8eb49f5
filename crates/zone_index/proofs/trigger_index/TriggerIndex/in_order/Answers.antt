use Rattle.std.proofs.Common.{subst}
use Rattle.zone_index.proofs.TrieEdits.{lower, ranked}
use Rattle.zone_index.specs.Entry.{PlainEntry}
use Rattle.zone_index.specs.Places.{AreLower, AreRanked}
use Rattle.zone_index.proofs.trigger_index.TriggerIndex.in_order.Goals as goal

pub returns : goal.returns
returns c = record {
  ranked = subst (λ p. AreRanked {V = PlainEntry} p) c.self.view_is (ranked c.self.inside.groups c.self.inside.places c.in_order.ensures.ranked);
  lower = subst (λ p. AreLower {V = PlainEntry} p) c.self.view_is (lower c.self.inside.groups c.self.inside.places c.in_order.ensures.lower);
}
