use Rattle.std.proofs.Common.{◌≡◌, drop, [], ap, arith}
use Rattle.std.proofs.lemmas.List.{drop_all}
use Rattle.trigger_codec.specs.Canonical.{zeros_first}
use Rattle.trigger_codec.proofs.RunLemmas.{zeros_more}
use Rattle.trigger_codec.proofs.runs.zeros_first.Goals as goal

pub loop-word-preserved : goal.loop-word-preserved
loop-word-preserved c = record {
  count = omega arith;
  so_far = omega (arith, c.loop-word.invariant.so_far, zeros_more c.args.words.now c.loop-word.word-index c.loop-word-test.true c.if-word-ne0.false);
}

pub returns : goal.returns
returns c =
    let none : drop c.loop-word.word-index c.args.words.now ≡ [] = drop_all c.loop-word.word-index c.args.words.now c.loop-word-test.false in
    omega (arith, c.loop-word.invariant.so_far, ap zeros_first none)
