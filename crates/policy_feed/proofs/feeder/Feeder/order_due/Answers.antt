use Rattle.std.proofs.Common.{◌≡◌, ◌∷◌, ◌++◌, ◌∙◌, [], List, ℕ, Some, None, append_assoc, refl, sym, ap, subst}
use Rattle.std.proofs.lemmas.List.{append-nil}
use Rattle.edge_io.specs.Chain.{Stage}
use Rattle.notify_poll.specs.Timers.{due_zone}
use Rattle.policy_feed.specs.Feed.{Feed, PlainFeeder, feed_of}
use Rattle.policy_feed.specs.Ordering.{DueOrder, OrdersFirst, order_lines}
use Rattle.policy_feed.proofs.feeder.Feeder.order_due.Goals as goal

pub loop-init : goal.loop-init
loop-init g c = record { can = tt; finite = tt; ordered = ([], refl, sym (append-nil c.args.text.now.items)); count = refl }

pub loop-preserved : goal.loop-preserved
loop-preserved g c =
    let so_far = c.loop.invariant.ordered in
    let next = c.in_ok-order_zone-in-Some-due.ensures.orders in
    let due = subst (λ (x : PlainFeeder). due_zone x.timers c.args.now ≡ Some c.in-Some-due.number) c.self.view_is (sym c.due.ensures ∙ c.in-Some-due.is) in
    let turn : DueOrder = record { number = c.in-Some-due.number; lines = next.0 } in
    let stage : Stage Feed DueOrder = record { turn = turn; before = feed_of c.loop.self (g.W.Wires.told c.loop.wires) (g.W.Wires.order_faults c.loop.wires) (g.I.Ids.ids c.loop.ids) } in
    let step : OrdersFirst c.args.now stage.before turn (feed_of c.order_zone.new.self (g.W.Wires.told c.order_zone.new.wires) (g.W.Wires.order_faults c.order_zone.new.wires) (g.I.Ids.ids c.order_zone.new.ids)) = (due, next.2) in
    record {
      can = tt;
      finite = tt;
      ordered = (stage ∷ so_far.0, (step, so_far.1), next.1 ∙ ap (λ (l : List ℕ). l ++ next.0) so_far.2 ∙ append_assoc c.args.text.now.items (order_lines so_far.0) next.0);
      count = c.in_ok-order_zone-in-Some-due.ensures.count ∙ c.loop.invariant.count;
    }

pub returns-in-None-due-clause-orders : goal.returns-in-None-due-clause-orders
returns-in-None-due-clause-orders g c =
    let so_far = c.loop.invariant.ordered in
    let none = subst (λ (x : PlainFeeder). due_zone x.timers c.args.now ≡ None) c.self.view_is (sym c.due.ensures ∙ c.in-None-due.is) in
    (order_lines so_far.0, so_far.2, record { stages = so_far.0; chain = so_far.1; lines_are = refl; none_left = none })

pub returns-in-None-due-clause-count : goal.returns-in-None-due-clause-count
returns-in-None-due-clause-count g c = c.loop.invariant.count
