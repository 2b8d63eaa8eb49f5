use Rattle.std.proofs.Common.{ap, ◌∙◌}
use Rattle.zone_index.specs.Places.{PlainPlaces, best_rule}
use Rattle.zone_index.proofs.trigger_index.TriggerIndex.qname.Goals as goal

pub best-requires : goal.best-requires
best-requires c = c.self.invariant.qname

pub returns : goal.returns
returns c = c.best.ensures ∙ ap (λ (p : PlainPlaces). best_rule c.args.name.now p.rules.qname) c.self.view_is
