use Rattle.std.proofs.Common.{◌+◌, ◌++◌, ◌∷◌, [], drop, ap, sym, ◌∙◌, subst, arith}
use Rattle.packed_lists.specs.Stored.{NumbersRise}
use Rattle.packed_lists.specs.RowsSeen.{seen}
use Rattle.packed_lists.specs.Blocks.{PlainRowList}
use Rattle.packed_lists.proofs.Joined.{next_rises, next_fits, take_got}
use Rattle.packed_lists.proofs.row_list.RowList.rebuilt.Goals as goal

pub put-requires-clause-above : goal.put-requires-clause-above
put-requires-clause-above c = (next_rises c.loop-at.list.next c.args.self.now.next c.loop-at.at c.args.self.now.rows (seen c.nth.result) c.loop-at.invariant.rest c.nth.ensures).0

pub put-requires-clause-below : goal.put-requires-clause-below
put-requires-clause-below c = omega (arith, next_fits c.loop-at.list.next c.args.self.now.next c.loop-at.at c.args.self.now.rows (seen c.nth.result) c.loop-at.invariant.rest c.nth.ensures, c.len-count.ensures.fits)

pub loop-at-preserved : goal.loop-at-preserved
loop-at-preserved c =
    let risen = next_rises c.loop-at.list.next c.args.self.now.next c.loop-at.at c.args.self.now.rows (seen c.nth.result) c.loop-at.invariant.rest c.nth.ensures in
    record {
      rows = ap (λ (v : PlainRowList). v.rows) c.in_ok-put.ensures.ok ∙ ap (λ l. l ++ seen c.nth.result ∷ []) c.loop-at.invariant.rows ∙ sym (take_got c.args.self.now.rows c.loop-at.at (seen c.nth.result) c.nth.ensures);
      rest = subst (λ (v : PlainRowList). NumbersRise v.next (drop (c.loop-at.at + 1) c.args.self.now.rows) c.args.self.now.next) (sym c.in_ok-put.ensures.ok) risen.1;
    }
