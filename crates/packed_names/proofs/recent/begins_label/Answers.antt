use Rattle.std.proofs.Common.{ℕ, ◌+◌, sym, subst}
use Rattle.packed_names.proofs.RecentLemmas.{Walking, Walking-label}
use Rattle.packed_names.proofs.recent.begins_label.Goals as goal

pub loop-at-preserved : goal.loop-at-preserved
loop-at-preserved c =
    let o = c.args.octets.now in
    subst (λ (n : ℕ). Walking o c.args.index (c.loop-at.at + (n + 1))) (sym c.from.ensures) (Walking-label o c.args.index c.loop-at.at c.requires.wire c.requires.inside c.loop-at-test.true c.loop-at.invariant)
