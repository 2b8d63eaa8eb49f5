use Rattle.std.proofs.Common.{◌∷◌, sym, ap, ◌∙◌}
use Rattle.qname_index.proofs.Comparing.{are_split, both_ended, first_decides, left_more, mine_ended, mine_there, theirs_ended, theirs_there}
use Rattle.qname_index.proofs.order.compare_keys.Goals as goal

pub split_at-requires : goal.split_at-requires
split_at-requires c =
    mine_there c.loop-my_len.invariant c.from.result c.in-Some.my_others.now (c.in-Some.ensures.cases.0 ∙ ap (λ n. n ∷ c.in-Some.my_others.now) (sym c.from.ensures))

pub split_at-requires-in-Some : goal.split_at-requires-in-Some
split_at-requires-in-Some c =
    theirs_there c.loop-my_len.invariant c.from-in-Some.result c.in-Some-split_first.their_others.now (c.in-Some-split_first.ensures.cases.0 ∙ ap (λ n. n ∷ c.in-Some-split_first.their_others.now) (sym c.from-in-Some.ensures))

pub loop-my_len-preserved : goal.loop-my_len-preserved
loop-my_len-preserved c =
    left_more c.loop-my_len.invariant
    (are_split c.in-Some.ensures.cases.0 c.from.ensures c.split_at.ensures.front c.split_at.ensures.back
    c.in-Some-split_first.ensures.cases.0 c.from-in-Some.ensures c.split_at-in-Some.ensures.front c.split_at-in-Some.ensures.back)
    c.compare_labels.result c.compare_labels.ensures c.in-Equal.is

pub returns-in_default-compare_labels : goal.returns-in_default-compare_labels
returns-in_default-compare_labels c =
    first_decides c.loop-my_len.invariant
    (are_split c.in-Some.ensures.cases.0 c.from.ensures c.split_at.ensures.front c.split_at.ensures.back
    c.in-Some-split_first.ensures.cases.0 c.from-in-Some.ensures c.split_at-in-Some.ensures.front c.split_at-in-Some.ensures.back)
    c.compare_labels.result c.compare_labels.ensures c.in_default-compare_labels.not-Equal

pub returns-in_default-split_first : goal.returns-in_default-split_first
returns-in_default-split_first c = theirs_ended c.loop-my_len.invariant c.in-Some.my_len.now c.in-Some.my_others.now c.in-Some.ensures.cases.0 c.in_default-split_first.ensures.cases

pub returns-then-is_empty : goal.returns-then-is_empty
returns-then-is_empty c = both_ended c.loop-my_len.invariant c.in_default.ensures.cases c.if-is_empty.ensures

pub returns-else-is_empty : goal.returns-else-is_empty
returns-else-is_empty c = mine_ended c.loop-my_len.invariant c.in_default.ensures.cases c.if-is_empty.ensures
