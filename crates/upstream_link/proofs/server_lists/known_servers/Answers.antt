use Rattle.std.proofs.Common.{subst}
use Rattle.upstream_link.specs.Known.{AreListsOf}
use Rattle.upstream_link.specs.Servers.{servers_at}
use Rattle.upstream_link.proofs.Listed.{joined_more}
use Rattle.upstream_link.proofs.server_lists.known_servers.Goals as goal

pub loop-owner-preserved : goal.loop-owner-preserved
loop-owner-preserved c = subst (λ names. AreListsOf c.push_list.new.lists names) (joined_more (servers_at c.args.facts.now) c.as_slice-owner-items.result.now c.loop-owner.owner-index c.owner-item.result c.loop-owner-test.true c.owner-item.is) (c.in_ok-push_list.ensures _ c.loop-owner.invariant)
