use Rattle.std.proofs.Common.{◌∙◌, ap, sym}
use Rattle.std.specs.Prelude.{option_copied}
use Rattle.action_codec.specs.Seen.{action_seen}
use Rattle.summary_index.specs.Summary.{zones_at}
use Rattle.summary_index.specs.Zones.{has_zone}
use Rattle.qname_index.specs.Best.{pattern_order}
use Rattle.zone_index.specs.Indexed.{content_rule}
use Rattle.policy_snapshot.specs.Listing.{has_pattern}
use Rattle.policy_snapshot.proofs.PatternRules.{TriggerLaws, edited_not, edited_of, if_both, is_found}
use Rattle.policy_snapshot.proofs.name_listing.edited_at.Goals as goal

pub returns-in-None-clause-at : goal.returns-in-None-clause-at
returns-in-None-clause-at c =
    λ p is n some within.
    edited_not c.args.kind c.args.trigger.now p c.args.number n (has_pattern c.args.kind c.args.zone.now p) (has_zone (zones_at pattern_order p c.args.summary.triggers) n) c.requires.kind
    (ap option_copied (sym c.in-None.is) ∙ c.pattern_of.ensures)

pub returns-in-Some-clause-at : goal.returns-in-Some-clause-at
returns-in-Some-clause-at c =
    let laws : TriggerLaws = record { same = c.triggers_of_one_place_are_equal.ensures.same; at = c.a_rule_does_what_its_rows_do.ensures.at } in
    if_both c.with_zone_at.result _ _ _
    (λ after here elsewhere. edited_of laws c.args.kind c.args.trigger.now c.in-Some.pattern.now c.args.zone.now c.args.number c.is_some.result c.args.summary.triggers after.triggers
    c.requires.kind (ap option_copied (sym c.in-Some.is) ∙ c.pattern_of.ensures) c.requires.trigger
    (is_found c.is_some.result action_seen c.rule.result (content_rule c.args.zone.now.origin c.args.zone.now.content c.args.trigger.now) c.is_some.ensures c.rule.ensures)
    here elsewhere)
    c.with_zone_at.ensures.here c.with_zone_at.ensures.elsewhere
