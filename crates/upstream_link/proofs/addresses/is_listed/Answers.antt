use Rattle.std.proofs.Common.{sym}
use Rattle.upstream_link.proofs.Listed.{each_of, here_listed, more_listed}
use Rattle.upstream_link.proofs.addresses.is_listed.Goals as goal

pub returns-then-is_in : goal.returns-then-is_in
returns-then-is_in c all = sym (here_listed (λ list. list.now) c.args.name.now c.args.lists.now c.loop-list.list-index c.list-item.result c.loop-list-test.true c.list-item.is (sym (c.if-is_in.ensures (each_of (λ list. list.now) c.args.name.now c.args.lists.now c.loop-list.list-index c.list-item.result c.loop-list-test.true c.list-item.is all))))

pub loop-list-preserved : goal.loop-list-preserved
loop-list-preserved c all = more_listed (λ list. list.now) c.args.name.now c.args.lists.now c.loop-list.list-index c.list-item.result c.loop-list-test.true c.list-item.is (c.loop-list.invariant all) (sym (c.if-is_in.ensures (each_of (λ list. list.now) c.args.name.now c.args.lists.now c.loop-list.list-index c.list-item.result c.loop-list-test.true c.list-item.is all)))
