use Rattle.std.proofs.Common.{◌-◌, ◌<◌, ◌≤◌, ◌∙◌, Some, length, arith, refl, sym, ap, subst}
use Rattle.std.proofs.lemmas.Option.{slice_get-get_or}
use Rattle.edge_io.specs.declared.endpoint.Endpoint.{Endpoint}
use Rattle.policy_snapshot.specs.Policy.{zone_at}
use Rattle.policy_feed.specs.Feed.{PlainFeeder, feed_of}
use Rattle.policy_feed.specs.Ordering.{Begins, OrdersZone}
use Rattle.policy_feed.proofs.Begun.{on_ok, ordered}
use Rattle.policy_feed.proofs.Woken.{zone_in}
use Rattle.policy_feed.proofs.feeder.Feeder.order_zone.Goals as goal

pub returns-clause-orders : goal.returns-clause-orders
returns-clause-orders g c =
    let f : PlainFeeder = record { allowed = g.N.StoreName.store.allowed; zones = record { origins = c.self.inside.origins.items; primaries = c.self.inside.primaries.items }; published = c.self.inside.publisher; timers = c.self.inside.timers; polls = c.self.inside.polls.items } in
    let there = zone_in c.args.number f c.args.self.now c.self.view_is c.self.invariant c.requires.low c.requires.high in
    let high = subst (λ (x : PlainFeeder). c.args.number ≤ length x.timers) (sym c.self.view_is) c.requires.high in
    let low = c.requires.low in
    let primaries = c.self.invariant.primaries in
    let timers = c.self.invariant.timers in
    let within : c.args.number - 1 < length f.zones.primaries = omega (arith, low, high, primaries, timers) in
    let primary = slice_get-get_or f.zones.primaries (c.args.number - 1) _ within ∙ ap (λ (at : Endpoint). Some at) (sym c.index-primary.ensures) in
    on_ok c.take_order.result (λ h. (
      h.0,
      h.1,
      subst (λ (x : PlainFeeder). OrdersZone c.args.now (feed_of x (g.W.Wires.told c.args.wires.now) (g.W.Wires.order_faults c.args.wires.now) (g.I.Ids.ids c.args.ids.now)) c.args.number h.0 (feed_of c.take_order.new.self (g.W.Wires.told c.order-ordered.new.self) (g.W.Wires.order_faults c.order-ordered.new.self) (g.I.Ids.ids c.next_id-id.new.self))) c.self.view_is
          (ordered c.args.now c.args.number (feed_of f (g.W.Wires.told c.args.wires.now) (g.W.Wires.order_faults c.args.wires.now) (g.I.Ids.ids c.args.ids.now)) (feed_of c.take_order.new.self (g.W.Wires.told c.order-ordered.new.self) (g.W.Wires.order_faults c.order-ordered.new.self) (g.I.Ids.ids c.next_id-id.new.self)) (zone_at f.published.version.zones c.args.number) c.index-primary.result.now c.next_id-id.result c.order-ordered.result c.as_slice.result.now c.in_ok-message.reader.asked h.0 refl there primary c.next_id-id.ensures (λ zone is. c.as_slice.ensures ∙ c.in_ok-message.ensures.request zone is) c.in_ok-message.ensures.asked c.order-ordered.ensures.told c.order-ordered.ensures.numbered c.order-ordered.ensures.orders c.order-ordered.ensures.failed (subst (λ (x : PlainFeeder). Begins c.args.now x c.args.number c.in_ok-message.reader.asked c.order-ordered.result h.0 c.take_order.new.self) (sym c.self.view_is) h.2)),
    )) c.take_order.ensures
