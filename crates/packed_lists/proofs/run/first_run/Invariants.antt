use Rattle.std.proofs.Common.{◌≡◌, ◌-◌, ◌<◌, ◌≤◌, length, take}
use Rattle.std.specs.List.{AllByRecursion}
use Rattle.packed_lists.proofs.run.first_run.Given as goal

abbrev pub invariant-loop-count : goal.invariant-loop-count
invariant-loop-count l = record {
  some : 0 < l.count;
  within : l.count ≤ length l.keys;
  same : AllByRecursion (λ k. k.key.now ≡ l.first) (take l.count l.keys);
}

abbrev pub decreases-loop-count : goal.decreases-loop-count
decreases-loop-count l = length l.keys - l.count
