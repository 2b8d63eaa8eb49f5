use Rattle.std.proofs.Common.{◌-◌, ◌≡◌, ℕ, ◌+◌, ◌<◌, ◌≤◌, length, get_or}
use Rattle.packed_lists.proofs.block_numbers.count_at_most.Given as goal

abbrev pub invariant-loop-low : goal.invariant-loop-low
invariant-loop-low l = record {
  ordered : l.low ≤ l.high;
  within : l.high ≤ length l.keys;
  below : (k : ℕ) → k + 1 ≡ l.low → get_or l.keys k 0 ≤ l.key;
  above : l.high < length l.keys → l.key < get_or l.keys l.high 0;
}

abbrev pub decreases-loop-low : goal.decreases-loop-low
decreases-loop-low l = l.high - l.low
