use Rattle.std.proofs.Common.{◌≡◌, ◌++◌, List}
use Rattle.edge_io.specs.Chain.{Chain, Stage}
use Rattle.policy_feed.specs.Feed.{Feed, feed_of}
use Rattle.policy_feed.specs.Ordering.{DueOrder, OrdersFirst, order_lines}
use Rattle.policy_feed.proofs.feeder.Feeder.order_due.Given as goal

abbrev pub invariant-loop : goal.invariant-loop
invariant-loop g l = record {
  can : (goal.iterator-loop g).can_next l.iterator';
  finite : (goal.iterator-loop g).is_finite l.iterator';
  ordered : (stages : List (Stage Feed DueOrder))
      × Chain (OrdersFirst l.now)
      (feed_of l.initial.self (g.W.Wires.told l.initial.wires) (g.W.Wires.order_faults l.initial.wires) (g.I.Ids.ids l.initial.ids))
      stages
      (feed_of l.self (g.W.Wires.told l.wires) (g.W.Wires.order_faults l.wires) (g.I.Ids.ids l.ids))
      × (l.text.items ≡ l.initial.text.items ++ order_lines stages);
  count : g.W.Wires.faults l.wires ≡ g.W.Wires.faults l.initial.wires;
}
