use Rattle.std.proofs.Common.{sym, ◌∙◌, arith}
use Rattle.networks.proofs.ElisionLemmas.{elision_later, elision_here, elision_nowhere}
use Rattle.networks.proofs.v6.split_elision.Goals as goal

pub loop-at-preserved : goal.loop-at-preserved
loop-at-preserved c = record {
  so_far = elision_later c.args.text.now c.loop-at.at (omega arith) (sym c.is_elision.ensures ∙ c.if-is_elision.false) c.loop-at.invariant.so_far;
  within = omega arith;
}

pub returns-then-is_elision : goal.returns-then-is_elision
returns-then-is_elision c = elision_here c.args.text.now c.loop-at.at (omega arith) (sym c.is_elision.ensures ∙ c.if-is_elision.true) c.loop-at.invariant.so_far

pub returns : goal.returns
returns c = elision_nowhere c.args.text.now c.loop-at.at (omega arith) c.loop-at.invariant.so_far
