use Rattle.action_codec.specs.Seen.{action_seen}
use Rattle.ip_prefix.specs.Prefix.{prefix_order}
use Rattle.summary_index.specs.Summary.{zones_at}
use Rattle.summary_index.specs.Zones.{has_zone}
use Rattle.zone_index.specs.Indexed.{content_rule}
use Rattle.policy_snapshot.specs.Listing.{has_prefix}
use Rattle.policy_snapshot.proofs.PatternRules.{TriggerLaws, is_found}
use Rattle.policy_snapshot.proofs.PrefixRules.{edited_if, edited_not}
use Rattle.policy_snapshot.proofs.prefix_listing.edited_at.Goals as goal

pub returns-in-Some-clause-at : goal.returns-in-Some-clause-at
returns-in-Some-clause-at c =
    let laws : TriggerLaws = record { same = c.triggers_of_one_place_are_equal.ensures.same; at = c.a_rule_does_what_its_rows_do.ensures.at } in
    edited_if laws c.args.kind c.args.trigger.now c.in-Some.prefix.now c.args.zone.now c.args.number c.is_some.result c.args.summary c.with_zone_at.result c.requires.kind c.in-Some.ensures
    (is_found c.is_some.result action_seen c.rule.result (content_rule c.args.zone.now.origin c.args.zone.now.content c.args.trigger.now) c.is_some.ensures c.rule.ensures) c.with_zone_at.ensures.here c.with_zone_at.ensures.elsewhere

pub returns-in-None-clause-at : goal.returns-in-None-clause-at
returns-in-None-clause-at c p n some within =
    edited_not c.args.kind c.args.trigger.now p c.args.number n (has_prefix c.args.kind c.args.zone.now p) (has_zone (zones_at prefix_order p c.args.summary.triggers) n) c.requires.kind c.in-None.ensures
