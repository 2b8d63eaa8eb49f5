use Rattle.std.proofs.Common.{◌≤◌, length, subst, sym, refl}
use Rattle.policy_snapshot.specs.Policy.{zone_at}
use Rattle.policy_feed.specs.Ending.{EndsReading}
use Rattle.policy_feed.specs.Feed.{PlainFeeder}
use Rattle.policy_feed.specs.Lines.{poll_line}
use Rattle.policy_feed.proofs.Begun.{ended, on_ok}
use Rattle.policy_feed.proofs.Fed.{end_fed}
use Rattle.policy_feed.proofs.Woken.{zone_in}
use Rattle.policy_feed.proofs.feeder.Feeder.end_read.Goals as goal

pub invariant_of-self : goal.invariant_of-self
invariant_of-self g c =
    let f : PlainFeeder = record { allowed = g.N.StoreName.store.allowed; zones = record { origins = c.self.inside.origins.items; primaries = c.self.inside.primaries.items }; published = c.self.inside.publisher; timers = c.self.inside.timers; polls = c.self.inside.polls.items } in
    end_fed f c.args.number c.args.read c.end_poll-told.result c.end_poll-told.new.publisher c.requires.low (subst (λ (x : PlainFeeder). c.args.number ≤ length x.timers) (sym c.self.view_is) c.requires.high) c.end_poll-told.ensures c.self.invariant

pub invariant_of-self-2 : goal.invariant_of-self-2
invariant_of-self-2 g c =
    let f : PlainFeeder = record { allowed = g.N.StoreName.store.allowed; zones = record { origins = c.self.inside.origins.items; primaries = c.self.inside.primaries.items }; published = c.self.inside.publisher; timers = c.self.inside.timers; polls = c.self.inside.polls.items } in
    end_fed f c.args.number c.args.read c.end_poll-told.result c.end_poll-told.new.publisher c.requires.low (subst (λ (x : PlainFeeder). c.args.number ≤ length x.timers) (sym c.self.view_is) c.requires.high) c.end_poll-told.ensures c.self.invariant

pub returns : goal.returns
returns g c =
    let f : PlainFeeder = record { allowed = g.N.StoreName.store.allowed; zones = record { origins = c.self.inside.origins.items; primaries = c.self.inside.primaries.items }; published = c.self.inside.publisher; timers = c.self.inside.timers; polls = c.self.inside.polls.items } in
    let there = zone_in c.args.number f c.args.self.now c.self.view_is c.self.invariant c.requires.low c.requires.high in
    let is = ended c.args.now c.args.number f (zone_at f.published.version.zones c.args.number) c.args.read c.end_poll-told.result c.in_ok-gives.gives c.end_poll-told.new.publisher c.note_end.new.self refl there c.end_poll-told.ensures c.in_ok-gives.ensures c.note_end.ensures.feeder in
    let ends = subst (λ (x : PlainFeeder). EndsReading c.args.now c.args.number c.args.read x (poll_line c.args.number c.in_ok-gives.gives) c.note_end.new.self) c.self.view_is is in
    on_ok c.note_end.result (λ line. (poll_line c.args.number c.in_ok-gives.gives, line, ends)) c.note_end.ensures.line
