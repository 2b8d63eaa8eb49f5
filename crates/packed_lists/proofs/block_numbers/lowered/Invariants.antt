use Rattle.std.proofs.Common.{◌≡◌, ◌++◌, ◌-◌, map, take}
use Rattle.packed_lists.proofs.block_numbers.lowered.Given as goal

abbrev pub invariant-loop-start : goal.invariant-loop-start
invariant-loop-start l = l.all.items ≡ take l.from l.starts ++ map (λ s. s - l.by) (take l.start-index l.rest)
