use Rattle.std.proofs.Common.{ap, ◌∙◌}
use Rattle.zone_index.specs.Places.{PlainPlaces, longest_rule}
use Rattle.zone_index.proofs.trigger_index.TriggerIndex.nsip.Goals as goal

pub longest-requires : goal.longest-requires
longest-requires c = c.self.invariant.nsip

pub returns : goal.returns
returns c = c.longest.ensures ∙ ap (λ (p : PlainPlaces). longest_rule c.args.addr p.rules.nsip) c.self.view_is
