use Rattle.std.proofs.Common.{rules, tests}
use Rattle.std.proofs.lemmas.Iterator.Consumers.{YieldsList-at, YieldsList-turn, YieldsList-end}
use Rattle.std.proofs.lemmas.Iterator.Splits.{YieldsList-from_slice_split}
use Rattle.dns_name.specs.Text.{split_at_dots}
use Rattle.dns_name.proofs.TextLemmas.{label_fits, all_written}
use Rattle.dns_name.proofs.text.wire_of.Goals as goal

pub overflow_cast-label : goal.overflow_cast-label
overflow_cast-label c =
    let road = YieldsList-at c.into_iter-label-iterator.ensures.into_iter_gives (YieldsList-from_slice_split _ _ c.args.labels.now c.split-label-items.ensures.rest c.split-label-items.ensures.done c.split-label-items.ensures.closure (λ x r q k. search (rules, tests))) in
    label_fits (split_at_dots c.args.labels.now) _ _ c.requires.labels (YieldsList-turn road c.loop-label.yielded _ c.loop-label.yielded_by _ _ c.in-Some.label c.in-Some.is c.next.ensures.steps)

pub returns : goal.returns
returns c =
    let road = YieldsList-at c.into_iter-label-iterator.ensures.into_iter_gives (YieldsList-from_slice_split _ _ c.args.labels.now c.split-label-items.ensures.rest c.split-label-items.ensures.done c.split-label-items.ensures.closure (λ x r q k. search (rules, tests))) in
    let end = YieldsList-end road c.loop-label.yielded _ c.loop-label.yielded_by _ _ c.in-None.is c.next.ensures.steps in
    all_written _ _ _ (split_at_dots c.args.labels.now) c.in_ok-push-2.ensures.items c.loop-label.invariant.wire end.0
