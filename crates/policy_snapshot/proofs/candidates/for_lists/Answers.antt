use Rattle.std.proofs.Common.{◌≡◌, List, ℕ, sym, subst}
use Rattle.std.specs.Prelude.{All}
use Rattle.dns_name.specs.Labels.{lowered}
use Rattle.upstream_link.specs.Known.{AreInOrder}
use Rattle.policy_snapshot.proofs.ListLoops.{holds_at}
use Rattle.policy_snapshot.proofs.candidates.for_lists.Goals as goal

pub for_servers-requires : goal.for_servers-requires
for_servers-requires c =
    let order = holds_at (λ list. list.now) AreInOrder c.args.lists.now c.loop-list.list-index c.list-item.result c.loop-list-test.true c.list-item.is c.requires in
    subst (All (λ (server : List (List ℕ)). lowered server ≡ server)) (sym c.as_slice.ensures) order.lower
