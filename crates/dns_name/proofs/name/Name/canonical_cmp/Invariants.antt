use Rattle.std.proofs.Common.{◌≡◌, length}
use Rattle.dns_name.specs.Order.{canonical_order}
use Rattle.dns_name.proofs.OrderLemmas.{order_then}
use Rattle.dns_name.proofs.name.Name.canonical_cmp.Given as goal

abbrev pub invariant-loop-a : goal.invariant-loop-a
invariant-loop-a l = record {
  order : order_then l.mine l.theirs l.order ≡ canonical_order l.self l.other;
  same : length l.mine ≡ length l.theirs;
}

abbrev pub decreases-loop-a : goal.decreases-loop-a
decreases-loop-a l = length l.mine
