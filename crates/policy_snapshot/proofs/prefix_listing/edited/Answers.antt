use Rattle.std.proofs.Common.{◌∙◌, ap}
use Rattle.policy_snapshot.proofs.PatternRules.{TriggerLaws}
use Rattle.policy_snapshot.proofs.PrefixRules.{edits_all, edits_more, edits_none}
use Rattle.policy_snapshot.proofs.prefix_listing.edited.Goals as goal

pub loop-trigger-init : goal.loop-trigger-init
loop-trigger-init c =
    edits_none c.args.kind c.args.next.now c.args.having c.args.before.now c.with_having-summary.result c.requires.listed c.with_having-summary.ensures.having
    (c.with_having-summary.ensures.listed ∙ ap (λ s. s.is_listed) c.in_ok-share.ensures) (c.with_having-summary.ensures.triggers ∙ ap (λ s. s.triggers) c.in_ok-share.ensures)

pub loop-trigger-preserved : goal.loop-trigger-preserved
loop-trigger-preserved c =
    edits_more c.args.kind c.args.next.now c.args.having c.args.before.now c.loop-trigger.summary c.in_ok-summary.summary c.args.triggers.now c.loop-trigger.trigger-index c.trigger-item.result
    c.loop-trigger.invariant c.loop-trigger-test.true c.trigger-item.is c.in_ok-summary.ensures.having c.in_ok-summary.ensures.listed c.in_ok-summary.ensures.at

pub returns : goal.returns
returns c =
    let laws : TriggerLaws = record { same = c.triggers_of_one_place_are_equal.ensures.same; at = c.a_rule_does_what_its_rows_do.ensures.at } in
    edits_all c.args.kind c.requires.kind c.args.next.now c.requires.there c.args.before.now c.requires.known laws c.args.having c.loop-trigger.summary c.args.triggers.now c.loop-trigger.trigger-index
    c.requires.listed c.requires.having c.requires.others c.loop-trigger-test.false c.loop-trigger.invariant
