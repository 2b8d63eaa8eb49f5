use Rattle.std.proofs.Common.{◌∙◌, ap}
use Rattle.dns_name.specs.Alike.{PlainPattern}
use Rattle.summary_index.specs.Summary.{PlainSummary}
use Rattle.trigger_codec.specs.Bases.{IsTrigger}
use Rattle.policy_snapshot.proofs.ListedRules.{one_of}
use Rattle.policy_snapshot.proofs.PatternRules.{TriggerLaws, names_edited, names_edited_more, names_edited_none}
use Rattle.policy_snapshot.proofs.name_listing.edited.Goals as goal

pub loop-trigger-init : goal.loop-trigger-init
loop-trigger-init c = record {
  having = c.with_having-summary.ensures.having;
  listed = c.with_having-summary.ensures.listed ∙ ap (λ (s : PlainSummary PlainPattern). s.is_listed) c.in_ok-share.ensures ∙ c.requires.listed;
  edited = names_edited_none c.args.kind c.args.next.now c.args.before.now c.with_having-summary.result (c.with_having-summary.ensures.triggers ∙ ap (λ (s : PlainSummary PlainPattern). s.triggers) c.in_ok-share.ensures);
}

pub edited_at-requires-clause-trigger : goal.edited_at-requires-clause-trigger
edited_at-requires-clause-trigger c = one_of IsTrigger c.args.triggers.now c.loop-trigger.trigger-index c.trigger-item.result c.requires.triggers c.loop-trigger-test.true c.trigger-item.is

pub loop-trigger-preserved : goal.loop-trigger-preserved
loop-trigger-preserved c = record {
  having = c.in_ok-summary.ensures.having ∙ c.loop-trigger.invariant.having;
  listed = c.in_ok-summary.ensures.listed ∙ c.loop-trigger.invariant.listed;
  edited = names_edited_more c.args.kind c.args.next.now c.args.before.now c.loop-trigger.summary c.in_ok-summary.summary c.args.triggers.now c.loop-trigger.trigger-index c.trigger-item.result
      c.loop-trigger-test.true c.trigger-item.is c.loop-trigger.invariant.edited c.in_ok-summary.ensures.at;
}

pub returns : goal.returns
returns c =
    let laws : TriggerLaws = record { same = c.triggers_of_one_place_are_equal.ensures.same; at = c.a_rule_does_what_its_rows_do.ensures.at } in
    names_edited c.args.kind c.requires.kind c.args.next.now c.requires.there c.args.before.now c.requires.known laws c.requires.listed c.args.triggers.now c.requires.others
    c.loop-trigger.summary c.args.having c.requires.having c.loop-trigger.invariant.having c.loop-trigger.trigger-index c.loop-trigger-test.false c.loop-trigger.invariant.edited
