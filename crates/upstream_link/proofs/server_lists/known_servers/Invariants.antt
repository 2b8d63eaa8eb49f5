use Rattle.std.proofs.Common.{take}
use Rattle.std.specs.List.{flat_map}
use Rattle.upstream_link.specs.Known.{AreListsOf}
use Rattle.upstream_link.specs.Servers.{servers_at}
use Rattle.upstream_link.proofs.server_lists.known_servers.Given as goal

abbrev pub invariant-loop-owner : goal.invariant-loop-owner
invariant-loop-owner l = AreListsOf l.lists (flat_map (servers_at l.facts) (take l.owner-index l.owner-items))
