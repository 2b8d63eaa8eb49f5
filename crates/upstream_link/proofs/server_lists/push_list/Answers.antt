use Rattle.upstream_link.specs.Servers.{servers_at}
use Rattle.upstream_link.proofs.Listed.{one_list_more}
use Rattle.upstream_link.proofs.server_lists.push_list.Goals as goal

pub returns-in_ok-push-in-Some : goal.returns-in_ok-push-in-Some
returns-in_ok-push-in-Some c names a = one_list_more c.args.lists.now c.push.new.self c.in-Some.list.now names (servers_at c.args.facts.now c.args.owner.now) c.in_ok-push-in-Some.ensures c.in-Some.ensures.0 c.in-Some.ensures.1 a
