use Rattle.std.proofs.Common.{map, ap, ◌∙◌}
use Rattle.std.proofs.lemmas.List.{take_all}
use Rattle.packed_lists.proofs.Runs.{numbers_seen}
use Rattle.packed_lists.proofs.run.numbers_of.Goals as goal

pub returns : goal.returns
returns c = c.loop-keyed.invariant ∙ ap (map (λ k. k.number)) (take_all _ _ c.loop-keyed-test.false) ∙ numbers_seen c.args.keys.now
