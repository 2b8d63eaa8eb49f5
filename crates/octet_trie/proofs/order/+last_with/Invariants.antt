use Rattle.std.proofs.Common.{◌-◌, length}
use Rattle.octet_trie.proofs.order.+last_with.Given as goal

abbrev pub decreases-last_with : goal.decreases-last_with
decreases-last_with g l = length l.entries.now - l.low
