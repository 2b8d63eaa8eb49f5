use Rattle.std.proofs.Common.{ap, ◌∙◌}
use Rattle.zone_index.specs.Places.{PlainPlaces, longest_rule}
use Rattle.zone_index.proofs.trigger_index.TriggerIndex.response_ip.Goals as goal

pub longest-requires : goal.longest-requires
longest-requires c = c.self.invariant.response_ip

pub returns : goal.returns
returns c = c.longest.ensures ∙ ap (λ (p : PlainPlaces). longest_rule c.args.addr p.rules.response_ip) c.self.view_is
