use Rattle.std.proofs.Common.{◌∙◌, sym, ap, get_or}
use Rattle.std.proofs.lemmas.List.Sums.{fold_more}
use Rattle.load_gen.specs.Summed.{next_mark}
use Rattle.load_gen.specs.Tallied.{next_power}
use Rattle.load_gen.proofs.tally.add_octets.Goals as goal

pub loop-byte-preserved : goal.loop-byte-preserved
loop-byte-preserved c =
    let i = c.loop-byte.byte-index in
    let xs = c.args.octets.now in
    let byte = get_or xs i 0 in (
      c.next_mark-mark.ensures ∙ (ap (λ m. next_mark m byte) c.loop-byte.invariant.0 ∙ sym (fold_more next_mark c.args.mark xs i 0 c.loop-byte-test.true)),
      c.next_power-power.ensures byte ∙ (ap (λ p. next_power p byte) c.loop-byte.invariant.1 ∙ sym (fold_more next_power c.args.power xs i 0 c.loop-byte-test.true)),
    )
