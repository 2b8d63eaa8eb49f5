use Rattle.upstream_link.proofs.Listed.{all_told, told_more}
use Rattle.upstream_link.proofs.server_lists.server_addresses.Goals as goal

pub loop-known-preserved : goal.loop-known-preserved
loop-known-preserved c all = told_more c.args.lists.now _ c.as_slice.ensures c.as_slice-known-items.result.now c.loop-known.known-index c.known-item.result c.loop-known-test.true c.known-item.is c.loop-known.all.items c.push_known.new.all.items c.in_ok-push_known.ensures (c.loop-known.invariant all) all

pub returns : goal.returns
returns c names a = all_told c.args.lists.now names a c.as_slice-known-items.result.now c.args.facts.now c.as_slice-known-items.ensures.entries c.as_slice-known-items.ensures.facts c.loop-known.all.items c.loop-known.known-index c.loop-known-test.false (c.loop-known.invariant a.order)
