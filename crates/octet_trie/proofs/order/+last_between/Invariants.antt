use Rattle.std.proofs.Common.{◌-◌}
use Rattle.octet_trie.proofs.order.+last_between.Given as goal

abbrev pub decreases-last_between : goal.decreases-last_between
decreases-last_between g l = l.high - l.low
