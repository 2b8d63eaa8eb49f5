use Rattle.std.proofs.Common.{◌≡◌, take}
use Rattle.packed_lists.specs.Stored.{without_number}
use Rattle.packed_lists.proofs.block.Block.without.Given as goal

abbrev pub invariant-loop-place : goal.invariant-loop-place
invariant-loop-place l = l.kept ≡ without_number l.number (take l.place l.self)
