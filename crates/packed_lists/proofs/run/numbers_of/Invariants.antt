use Rattle.std.proofs.Common.{◌≡◌, map, take}
use Rattle.packed_lists.proofs.run.numbers_of.Given as goal

abbrev pub invariant-loop-keyed : goal.invariant-loop-keyed
invariant-loop-keyed l = l.numbers.items ≡ map (λ k. k.number) (take l.keyed-index l.keys)
