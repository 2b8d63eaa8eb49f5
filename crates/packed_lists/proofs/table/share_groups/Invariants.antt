use Rattle.std.proofs.Common.{◌≡◌, map, take}
use Rattle.packed_lists.proofs.table.share_groups.Given as goal

abbrev pub invariant-loop-group : goal.invariant-loop-group
invariant-loop-group g l = map (λ b. b.value) l.full.items ≡ map (λ b. b.value) (take l.group-index l.groups.items)
