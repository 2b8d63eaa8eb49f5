use Rattle.std.proofs.Common.{◌-◌, ◌≡◌, ℕ, ◌+◌, ◌<◌, ◌≤◌, length, map, get_or}
use Rattle.packed_lists.proofs.entry.count_at_most.Given as goal

abbrev pub invariant-loop-low : goal.invariant-loop-low
invariant-loop-low l = record {
  ordered : l.low ≤ l.high;
  within : l.high ≤ length l.entries;
  below : (k : ℕ) → k + 1 ≡ l.low → get_or (map (λ e. e.number) l.entries) k 0 ≤ l.number;
  above : l.high < length l.entries → l.number < get_or (map (λ e. e.number) l.entries) l.high 0;
}

abbrev pub decreases-loop-low : goal.decreases-loop-low
decreases-loop-low l = l.high - l.low
