use Rattle.std.proofs.Common.{refl, ap, ◌∙◌, take, drop, arith}
use Rattle.std.proofs.lemmas.List.Sums.{sum_by-drop_more}
use Rattle.packed_lists.specs.declared.mark.Mark.{Mark}
use Rattle.packed_lists.proofs.Cutting.{cut_all, cut_next}
use Rattle.packed_lists.proofs.key_list.cut.Goals as goal

abbrev none : Mark
none = record { number = 0; len = 0 }

pub split_at-requires : goal.split_at-requires
split_at-requires c = omega (arith, c.from.ensures, c.loop-mark.invariant.room, sum_by-drop_more (λ m. m.len) c.args.marks.now c.loop-mark.mark-index none c.loop-mark-test.true)

pub loop-mark-preserved : goal.loop-mark-preserved
loop-mark-preserved c =
    let rest = c.loop-mark.rest.now in
    record {
      list = cut_next c.loop-mark.keys.items c.push.new.self.items _ c.args.marks.now c.loop-mark.mark-index none rest c.split_at.result.1.now c.loop-mark-test.true c.in_ok-push.ensures.items
          (c.split_at.ensures.front ∙ ap (λ n. take n rest) c.from.ensures) refl (c.split_at.ensures.back ∙ ap (λ n. drop n rest) c.from.ensures)
          ∙ c.loop-mark.invariant.list;
      room = omega (arith, c.from.ensures, c.loop-mark.invariant.room, c.split_at.ensures.back_len, sum_by-drop_more (λ m. m.len) c.args.marks.now c.loop-mark.mark-index none c.loop-mark-test.true);
    }

pub returns : goal.returns
returns c = cut_all c.loop-mark.keys.items c.args.marks.now c.loop-mark.mark-index c.loop-mark.rest.now c.loop-mark-test.false ∙ c.loop-mark.invariant.list
