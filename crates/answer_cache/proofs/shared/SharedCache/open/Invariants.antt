use Rattle.std.proofs.Common.{◌≡◌, length}
use Rattle.answer_cache.proofs.shared.SharedCache.open.Given as goal

abbrev pub invariant-loop-number : goal.invariant-loop-number
invariant-loop-number g l = length l.shards.items ≡ l.number
