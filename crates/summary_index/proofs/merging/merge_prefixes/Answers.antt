use Rattle.std.proofs.Common.{◌++◌, [], ◌∷◌, ◌≤◌, ◌⊎◌, inl, inr, arith, ap, ◌∙◌, length}
use Rattle.ip_prefix.specs.Prefix.{prefix_order}
use Rattle.summary_index.specs.Merged.{united}
use Rattle.summary_index.proofs.MergeLoop.{at_first, ends_as_they_are, goes_on, itself, some_done}
use Rattle.summary_index.proofs.merging.merge_prefixes.Goals as goal
use Rattle.summary_index.proofs.merging.merge_prefixes.Goals.{then-loop-i-test+else-j-second, else-loop-i-test}

pub loop-i-init : goal.loop-i-init
loop-i-init c = at_first prefix_order united itself c.args.first.now c.args.second.now c.in_ok-entries.entries.items c.in_ok-entries.ensures.items

pub loop-i-smaller : goal.loop-i-smaller
loop-i-smaller c =
    omega (arith, some_done c.rank_cmp-order.result c.of_first-i.result c.of_second-j.result c.of_first-i.ensures.step c.of_second-j.ensures.step, c.loop-i-test.true, c.if-j-second.true)

pub loop-i-preserved : goal.loop-i-preserved
loop-i-preserved c =
    goes_on prefix_order united itself c.args.first.now c.args.second.now c.index-first-i.result c.index-second-j.result c.loop-i.entries.items c.push.new.self.items
    c.loop-i.i c.loop-i.j c.of_first-i.result c.of_second-j.result c.rank_cmp-order.result c.loop-i.invariant c.loop-i-test.true c.if-j-second.true
    c.index-first-i.is c.index-second-j.is c.rank_cmp-order.ensures (c.in_ok-push.ensures.items ∙ ap (λ e. c.loop-i.entries.items ++ e ∷ []) c.next_prefix.ensures)
    c.of_first-i.ensures.step c.of_second-j.ensures.step c.of_first-i.ensures.one c.of_second-j.ensures.one

pub returns : goal.returns
returns c =
    let last : (length c.args.first.now ≤ c.loop-i.i) ⊎ (length c.args.second.now ≤ c.loop-i.j) = elim c.loop-i-test.branch [
      | then-loop-i-test+else-j-second w ↦ inr w.if-j-second.false
      | else-loop-i-test w ↦ inl w.loop-i-test.false
    ] in
    ends_as_they_are prefix_order united c.args.first.now c.args.second.now c.loop-i.entries.items c.push_prefixes.new.entries.items c.push_prefixes-2.new.entries.items
    c.loop-i.i c.loop-i.j c.loop-i.invariant last c.in_ok-push_prefixes.ensures c.in_ok-push_prefixes-2.ensures
