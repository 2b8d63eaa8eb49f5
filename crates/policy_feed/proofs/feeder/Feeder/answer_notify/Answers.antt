use Rattle.std.proofs.Common.{Ok, ◌≡◌, Bool, List, refl, sym, ap, ◌∙◌, subst}
use Rattle.dns_name.specs.Labels.{Name}
use Rattle.notify_poll.specs.Notifying.{answer_to, as_notified, brought_forward}
use Rattle.notify_poll.specs.declared.notifying.Notified.TheVariants.{Silent}
use Rattle.notify_poll.specs.declared.timer.Timer.{Timer}
use Rattle.policy_feed.specs.Feed.{PlainFeeder, feed_of}
use Rattle.policy_feed.specs.Waking.{TakesNotify, answer_of}
use Rattle.policy_feed.specs.declared.notice.Notice.TheVariants as notice
use Rattle.policy_feed.proofs.Noticed.{noticed}
use Rattle.policy_feed.proofs.feeder.Feeder.answer_notify.Goals as goal

pub returns-in-Ok-Silent-clause-takes : goal.returns-in-Ok-Silent-clause-takes
returns-in-Ok-Silent-clause-takes g c =
    let f : PlainFeeder = record { allowed = g.N.StoreName.store.allowed; zones = record { origins = c.self.inside.origins.items; primaries = c.self.inside.primaries.items }; published = c.self.inside.publisher; timers = c.self.inside.timers; polls = c.self.inside.polls.items } in
    let asks = c.may_ask-may_ask.ensures in
    let timed : c.notify.new.self ≡ brought_forward c.args.now f.timers (answer_of c.args.peer c.args.bytes.now f).1 =
    subst (λ (may_ask : Bool). c.notify.new.self ≡ brought_forward c.args.now f.timers (answer_to may_ask c.args.bytes.now c.args.peer.addr f.zones.origins f.timers).1) asks
    (subst (λ (os : List Name). c.notify.new.self ≡ brought_forward c.args.now f.timers (answer_to c.may_ask-may_ask.result c.args.bytes.now c.args.peer.addr os f.timers).1) c.deref.ensures.value c.in-Ok-Silent.ensures.ok) in
    let silent =
    subst (λ (may_ask : Bool). Silent ≡ as_notified (answer_to may_ask c.args.bytes.now c.args.peer.addr f.zones.origins f.timers).0) asks
    (subst (λ (os : List Name). Silent ≡ as_notified (answer_to c.may_ask-may_ask.result c.args.bytes.now c.args.peer.addr os f.timers).0) c.deref.ensures.value (sym c.in-Ok-Silent.field-0-is ∙ c.in-Ok-Silent.ensures.notified)) in
    let after : PlainFeeder = record f { timers = c.notify.new.self } in
    λ ids. subst (λ (x : PlainFeeder). TakesNotify c.args.now c.args.peer c.args.transport c.args.bytes.now (feed_of x (g.W.Wires.told c.args.wires.now) (g.W.Wires.order_faults c.args.wires.now) ids) notice.Silent (feed_of after (g.W.Wires.told c.args.wires.now) (g.W.Wires.order_faults c.args.wires.now) ids)) c.self.view_is
    (noticed c.args.now c.args.peer c.args.transport c.args.bytes.now (feed_of f (g.W.Wires.told c.args.wires.now) (g.W.Wires.order_faults c.args.wires.now) ids) (feed_of after (g.W.Wires.told c.args.wires.now) (g.W.Wires.order_faults c.args.wires.now) ids) Silent (Ok tt) notice.Silent silent refl refl (ap (λ (ts : List Timer). let x : PlainFeeder = record f { timers = ts } in x) timed) refl refl)
