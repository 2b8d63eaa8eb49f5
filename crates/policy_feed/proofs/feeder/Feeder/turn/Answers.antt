use Rattle.std.proofs.Common.{◌++◌, ◌∙◌, List, ℕ, append_assoc, refl, sym, ap, subst}
use Rattle.edge_io.specs.Edge.{Rose}
use Rattle.policy_feed.specs.Feed.{PlainFeeder, feed_of}
use Rattle.policy_feed.specs.Hastening.{hastened_when}
use Rattle.policy_feed.specs.Ordering.{OrdersDue}
use Rattle.policy_feed.proofs.feeder.Feeder.turn.Goals as goal

pub returns-clause-takes : goal.returns-clause-takes
returns-clause-takes g c =
    let took = c.in_ok-what.ensures.takes in
    let orders = c.in_ok-order_due.ensures.orders in
    let after = feed_of c.order_due.new.self (g.W.Wires.told c.order_due.new.wires) (g.W.Wires.order_faults c.order_due.new.wires) (g.I.Ids.ids c.order_due.new.ids) in (
      took.0 ++ orders.0,
      orders.1 ∙ ap (λ (l : List ℕ). l ++ orders.0) took.1 ∙ append_assoc c.args.text.now.items took.0 orders.0,
      record {
        middle = feed_of c.take.new.self (g.W.Wires.told c.take.new.wires) (g.W.Wires.order_faults c.take.new.wires) (g.I.Ids.ids c.args.ids.now);
        first = took.0;
        takes = took.2 (g.I.Ids.ids c.args.ids.now);
        next = orders.0;
        orders = subst (λ (x : PlainFeeder). OrdersDue c.args.now (feed_of (hastened_when c.args.is_anew c.args.now c.take.new.self) (g.W.Wires.told c.take.new.wires) (g.W.Wires.order_faults c.take.new.wires) (g.I.Ids.ids c.args.ids.now)) orders.0
            (feed_of x (g.W.Wires.told c.order_due.new.wires) (g.W.Wires.order_faults c.order_due.new.wires) (g.I.Ids.ids c.order_due.new.ids))) (sym c.give_up_old.ensures)
            (subst (λ (x : PlainFeeder). OrdersDue c.args.now (feed_of x (g.W.Wires.told c.take.new.wires) (g.W.Wires.order_faults c.take.new.wires) (g.I.Ids.ids c.args.ids.now)) orders.0 after) c.hasten_when.ensures orders.2);
        lines_are = refl;
      },
    )

pub returns-clause-failed : goal.returns-clause-failed
returns-clause-failed g c = λ is. subst (λ (n : ℕ). Rose (g.W.Wires.faults c.args.wires.now) n) (sym c.in_ok-order_due.ensures.count) (c.in_ok-what.ensures.failed is)
