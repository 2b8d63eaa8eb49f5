use Rattle.std.proofs.Common.{List, ◌∙◌, ap}
use Rattle.std.specs.List.{list_any}
use Rattle.dns_name.specs.Alike.{same_name}
use Rattle.policy_override.specs.declared.zone_set.ZoneSet.{ZoneSet}
use Rattle.policy_override.proofs.ZoneLemmas.{any_origin}
use Rattle.policy_override.proofs.zone_set.ZoneSets.contains.Goals as goal

pub returns : goal.returns
returns c =
    c.has_origin.ensures
    ∙ ap (λ (zones : List ZoneSet). list_any (λ (zone : ZoneSet). same_name zone.origin c.args.origin.now) zones) (c.deref.ensures.value ∙ c.self.view_is)
    ∙ any_origin c.args.self.now c.args.origin.now
