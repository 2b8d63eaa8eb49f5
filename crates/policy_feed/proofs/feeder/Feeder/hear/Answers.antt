use Rattle.std.proofs.Common.{[], sym, ap, ◌∙◌}
use Rattle.std.proofs.lemmas.List.{append-nil}
use Rattle.policy_feed.specs.Feed.{PlainFeeder}
use Rattle.policy_feed.specs.Waking.{place_with}
use Rattle.policy_feed.proofs.Woken.{a_poll_there, goes_on, hears_last, hears_nowhere}
use Rattle.policy_feed.proofs.feeder.Feeder.hear.Goals as goal

pub returns-in_default-clause-hears : goal.returns-in_default-clause-hears
returns-in_default-clause-hears g c =
    ([], sym (append-nil c.args.text.now.items), hears_nowhere c.args.now c.args.order c.args.message.now c.args.self.now c.place_of.result c.place_of.ensures.place c.in_default.is)

pub returns-in_default-take-clause-hears : goal.returns-in_default-take-clause-hears
returns-in_default-take-clause-hears g c =
    let f : PlainFeeder = record { allowed = g.N.StoreName.store.allowed; zones = record { origins = c.self.inside.origins.items; primaries = c.self.inside.primaries.items }; published = c.self.inside.publisher; timers = c.self.inside.timers; polls = c.self.inside.polls.items } in
    absurd (a_poll_there c.args.order f.polls c.in-Some.place _ c.take.result (ap (place_with c.args.order) c.self.view_is ∙ sym c.place_of.ensures.place ∙ c.in-Some.is) (c.take.ensures.value ∙ c.index_mut.ensures.value) c.in_default-take.is)

pub returns-in-More-clause-hears : goal.returns-in-More-clause-hears
returns-in-More-clause-hears g c =
    let f : PlainFeeder = record { allowed = g.N.StoreName.store.allowed; zones = record { origins = c.self.inside.origins.items; primaries = c.self.inside.primaries.items }; published = c.self.inside.publisher; timers = c.self.inside.timers; polls = c.self.inside.polls.items } in
    let at = ap (place_with c.args.order) c.self.view_is ∙ sym c.place_of.ensures.place ∙ c.in-Some.is in
    ([], sym (append-nil c.args.text.now.items), goes_on c.args.now c.in-Some.place c.args.order c.args.message.now f c.args.self.now c.in-Some-take.poll c.in-More.poll _ c.take.new.self c.replace.new.self c.self.view_is at (sym c.in-Some-take.is ∙ c.take.ensures.value ∙ c.index_mut.ensures.value) c.in-More.ensures.0 c.in-More.ensures.1 c.replace.ensures.after)

pub returns-in-Ended-clause-hears : goal.returns-in-Ended-clause-hears
returns-in-Ended-clause-hears g c =
    let f : PlainFeeder = record { allowed = g.N.StoreName.store.allowed; zones = record { origins = c.self.inside.origins.items; primaries = c.self.inside.primaries.items }; published = c.self.inside.publisher; timers = c.self.inside.timers; polls = c.self.inside.polls.items } in
    let at = ap (place_with c.args.order) c.self.view_is ∙ sym c.place_of.ensures.place ∙ c.in-Some.is in
    hears_last c.end_read.result c.args.now c.in-Some.place c.args.order c.args.message.now f c.args.self.now c.end_read.new.self c.in-Some-take.poll _ c.take.new.self c.in-Ended.read c.end_read.new.text.items c.args.text.now.items c.self.view_is at (sym c.in-Some-take.is ∙ c.take.ensures.value ∙ c.index_mut.ensures.value) c.take.ensures.after c.in-Ended.ensures c.end_read.ensures
