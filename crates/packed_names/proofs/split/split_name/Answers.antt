use Rattle.std.proofs.Common.{ℕ, ◌+◌, sym, subst, ◌∙◌}
use Rattle.packed_names.proofs.SplitLemmas.{AllPassing, Passing-label, Passing-end, split_wire}
use Rattle.packed_names.proofs.split.split_name.Goals as goal

pub loop-at-preserved : goal.loop-at-preserved
loop-at-preserved c =
    let o = c.args.octets.now in
    subst (λ (n : ℕ). AllPassing o (c.loop-at.at + (n + 1))) (sym c.from.ensures) (Passing-label o c.loop-at.at c.loop-at-test.true c.loop-at.invariant)

pub returns-clause-only : goal.returns-clause-only
returns-clause-only c = λ name rest is whole.
    let s = Passing-end c.args.octets.now c.loop-at.at c.loop-at-test.false c.loop-at.invariant name rest is whole in
    (c.split_at.ensures.front ∙ s.name_is, c.split_at.ensures.back ∙ s.rest_is)

pub returns-clause-wire : goal.returns-clause-wire
returns-clause-wire c = rw c.split_at.ensures.front (split_wire c.args.octets.now c.loop-at.at c.loop-at-test.false c.requires c.loop-at.invariant)
