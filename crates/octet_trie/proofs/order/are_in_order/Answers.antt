use Rattle.std.proofs.Common.{◌-◌, arith}
use Rattle.octet_trie.proofs.Orders.{in_order_few, in_order_more}
use Rattle.octet_trie.proofs.order.are_in_order.Goals as goal

pub loop-i-init : goal.loop-i-init
loop-i-init g c = in_order_few c.args.entries.now

pub loop-i-preserved : goal.loop-i-preserved
loop-i-preserved g c =
    in_order_more c.args.entries.now c.loop-i.i (c.loop-i.i - 1) c.index-entries-i.result c.index-entries-i-in-loop-i.result (omega arith) (omega arith)
    c.index-entries-i.is c.index-entries-i-in-loop-i.is c.loop-i.invariant (c.precedes.ensures c.if-not-precedes.false)
