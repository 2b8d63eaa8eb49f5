use Rattle.std.proofs.Common.{length, sym, ap, ◌∙◌, arith}
use Rattle.std.proofs.lemmas.List.{length-set}
use Rattle.trigger_codec.proofs.WordLemmas.{goes_zz, goes_word}
use Rattle.trigger_codec.proofs.address.words_of.Goals as goal
use Rattle.trigger_codec.proofs.address.words_of.Goals.{then-is_zz, else-is_zz+in_ok-words}

pub loop-i-preserved : goal.loop-i-preserved
loop-i-preserved c = elim c.if-is_zz.branch [
  | then-is_zz w ↦ record {
    reads = rw (w.words-is, w.place-is) (goes_zz c.args.missing _ c.loop-i.labels c.next_label.new.self c.in_ok-label.label.now c.loop-i.words c.loop-i.place c.args.count c.loop-i._i c.in_ok-label.ensures.next c.loop-i-test.true (sym c.is_zz.ensures ∙ w.if-is_zz.true) c.loop-i.invariant.reads);
    within = omega (arith, c.loop-i.invariant.within, ap length c.in_ok-label.ensures.next);
    eight = rw w.words-is c.loop-i.invariant.eight;
  }
  | else-is_zz+in_ok-words w ↦ record {
    reads = rw (w.words-is, w.place-is) (goes_word c.args.missing _ c.loop-i.labels c.next_label.new.self c.in_ok-label.label.now c.loop-i.words c.loop-i.place w.in_ok-words.field-0 c.args.count c.loop-i._i c.in_ok-label.ensures.next c.loop-i-test.true c.loop-i.invariant.eight (sym c.is_zz.ensures ∙ w.if-is_zz.false) (sym w.in_ok-words.ensures) c.loop-i.invariant.reads);
    within = omega (arith, c.loop-i.invariant.within, ap length c.in_ok-label.ensures.next);
    eight = rw w.words-is (length-set c.loop-i.words c.loop-i.place w.in_ok-words.field-0 ∙ c.loop-i.invariant.eight);
  }
]
