use Rattle.std.proofs.Common.{◌≤◌, ◌⊎◌, inl, inr, ap, arith, length, map}
use Rattle.std.specs.Cmp.Lexicographic.{slice_cmp}
use Rattle.std.specs.Ordering.{nat_cmp}
use Rattle.octet_trie.specs.Trie.{found_entry}
use Rattle.summary_index.specs.Merged.{united}
use Rattle.summary_index.proofs.MergeLoop.{at_first, ends, goes_on, some_done}
use Rattle.summary_index.proofs.merging.merge.Goals as goal
use Rattle.summary_index.proofs.merging.merge.Goals.{then-loop-i-test+else-j-second, else-loop-i-test}

pub loop-i-init : goal.loop-i-init
loop-i-init c = at_first (slice_cmp nat_cmp) united found_entry c.args.first.now c.args.second.now (map found_entry c.in_ok-entries.entries.items) (ap (map found_entry) c.in_ok-entries.ensures.items)

pub loop-i-smaller : goal.loop-i-smaller
loop-i-smaller c =
    omega (arith, some_done c.key_cmp-order.result c.of_first-i.result c.of_second-j.result c.of_first-i.ensures.step c.of_second-j.ensures.step, c.loop-i-test.true, c.if-j-second.true)

pub loop-i-preserved : goal.loop-i-preserved
loop-i-preserved c =
    goes_on (slice_cmp nat_cmp) united found_entry c.args.first.now c.args.second.now c.index-first-i.result c.index-second-j.result (map found_entry c.loop-i.entries.items) (map found_entry c.push_next.new.entries.items)
    c.loop-i.i c.loop-i.j c.of_first-i.result c.of_second-j.result c.key_cmp-order.result c.loop-i.invariant c.loop-i-test.true c.if-j-second.true
    c.index-first-i.is c.index-second-j.is c.key_cmp-order.ensures c.in_ok-push_next.ensures c.of_first-i.ensures.step c.of_second-j.ensures.step c.of_first-i.ensures.one c.of_second-j.ensures.one

pub returns : goal.returns
returns c =
    let last : (length c.args.first.now ≤ c.loop-i.i) ⊎ (length c.args.second.now ≤ c.loop-i.j) = elim c.loop-i-test.branch [
      | then-loop-i-test+else-j-second w ↦ inr w.if-j-second.false
      | else-loop-i-test w ↦ inl w.loop-i-test.false
    ] in
    ends (slice_cmp nat_cmp) united found_entry c.args.first.now c.args.second.now (map found_entry c.loop-i.entries.items) (map found_entry c.push_entries.new.entries.items) (map found_entry c.push_entries-2.new.entries.items)
    c.loop-i.i c.loop-i.j c.loop-i.invariant last c.in_ok-push_entries.ensures c.in_ok-push_entries-2.ensures
