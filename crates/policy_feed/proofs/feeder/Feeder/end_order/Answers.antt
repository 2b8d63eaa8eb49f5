use Rattle.std.proofs.Common.{◌+◌, ◌<◌, ℕ, Option, Err, length, refl, sym, ap, ◌∙◌, subst, arith}
use Rattle.std.specs.Prelude.{IfSome, slice_set}
use Rattle.axfr_apply.specs.declared.fault.TransferFault.TheVariants as fault
use Rattle.policy_snapshot.specs.Policy.{zone_at}
use Rattle.script_codec.specs.declared.zone_fault.ZoneFault.TheVariants as zone_fault
use Rattle.policy_feed.specs.Ending.{read, unfetched, unwritten}
use Rattle.policy_feed.specs.Feed.{PlainFeeder}
use Rattle.policy_feed.specs.Lines.{poll_line}
use Rattle.policy_feed.specs.Waking.{end_of}
use Rattle.policy_feed.proofs.Begun.{on_ok}
use Rattle.policy_feed.proofs.Woken.{faulty_end, order_ended, zone_in}
use Rattle.policy_feed.proofs.feeder.Feeder.end_order.Goals as goal

pub returns-in-End : goal.returns-in-End
returns-in-End g c =
    let f : PlainFeeder = record { allowed = g.N.StoreName.store.allowed; zones = record { origins = c.self.inside.origins.items; primaries = c.self.inside.primaries.items }; published = c.self.inside.publisher; timers = c.self.inside.timers; polls = c.self.inside.polls.items } in
    order_ended c.end_faulty.result c.args.now c.in-Some.place c.args.order c.args.why (read (Err fault.EndedEarly)) f c.args.self.now c.end_faulty.new.self c.take.new.self c.end_faulty.new.text.items c.args.text.now.items c.self.view_is c.take.ensures.after (sym c.place_of.ensures.place ∙ c.in-Some.is) (ap end_of c.in-End.is) c.end_faulty.ensures

pub returns-in-Cut : goal.returns-in-Cut
returns-in-Cut g c =
    let f : PlainFeeder = record { allowed = g.N.StoreName.store.allowed; zones = record { origins = c.self.inside.origins.items; primaries = c.self.inside.primaries.items }; published = c.self.inside.publisher; timers = c.self.inside.timers; polls = c.self.inside.polls.items } in
    order_ended c.end_faulty-in-Cut.result c.args.now c.in-Some.place c.args.order c.args.why (read (Err fault.Cut)) f c.args.self.now c.end_faulty-in-Cut.new.self c.take.new.self c.end_faulty-in-Cut.new.text.items c.args.text.now.items c.self.view_is c.take.ensures.after (sym c.place_of.ensures.place ∙ c.in-Some.is) (ap end_of c.in-Cut.is) c.end_faulty-in-Cut.ensures

pub returns-in-ReadFault : goal.returns-in-ReadFault
returns-in-ReadFault g c =
    let f : PlainFeeder = record { allowed = g.N.StoreName.store.allowed; zones = record { origins = c.self.inside.origins.items; primaries = c.self.inside.primaries.items }; published = c.self.inside.publisher; timers = c.self.inside.timers; polls = c.self.inside.polls.items } in
    order_ended c.end_faulty-in-ReadFault.result c.args.now c.in-Some.place c.args.order c.args.why (read (Err fault.ReadFault)) f c.args.self.now c.end_faulty-in-ReadFault.new.self c.take.new.self c.end_faulty-in-ReadFault.new.text.items c.args.text.now.items c.self.view_is c.take.ensures.after (sym c.place_of.ensures.place ∙ c.in-Some.is) (ap end_of c.in-ReadFault.is) c.end_faulty-in-ReadFault.ensures

pub returns-in-WriteFault : goal.returns-in-WriteFault
returns-in-WriteFault g c =
    let f : PlainFeeder = record { allowed = g.N.StoreName.store.allowed; zones = record { origins = c.self.inside.origins.items; primaries = c.self.inside.primaries.items }; published = c.self.inside.publisher; timers = c.self.inside.timers; polls = c.self.inside.polls.items } in
    let mid : PlainFeeder = record f { polls = slice_set f.polls c.in-Some.place c.take.new.self } in
    let there = zone_in (c.in-Some.place + 1) f c.args.self.now c.self.view_is c.self.invariant (omega arith) (omega (arith, (subst (λ (p : Option ℕ). IfSome p (λ place. place < length c.args.self.now.timers)) c.in-Some.is c.place_of.ensures.within))) in
    let ends = faulty_end c.args.now (c.in-Some.place + 1) unwritten zone_fault.Write mid (zone_at f.published.version.zones (c.in-Some.place + 1)) c.note_end.new.self refl there (λ zone. (refl, refl)) c.note_end.ensures.feeder in
    order_ended c.note_end.result c.args.now c.in-Some.place c.args.order c.args.why unwritten f c.args.self.now c.note_end.new.self c.take.new.self c.note_end.new.text.items c.args.text.now.items c.self.view_is c.take.ensures.after (sym c.place_of.ensures.place ∙ c.in-Some.is) (ap end_of c.in-WriteFault.is) (on_ok c.note_end.result (λ line. (poll_line (c.in-Some.place + 1) (Err zone_fault.Write), line, ends)) c.note_end.ensures.line)

pub returns-in-FetchFault : goal.returns-in-FetchFault
returns-in-FetchFault g c =
    let f : PlainFeeder = record { allowed = g.N.StoreName.store.allowed; zones = record { origins = c.self.inside.origins.items; primaries = c.self.inside.primaries.items }; published = c.self.inside.publisher; timers = c.self.inside.timers; polls = c.self.inside.polls.items } in
    let mid : PlainFeeder = record f { polls = slice_set f.polls c.in-Some.place c.take.new.self } in
    let there = zone_in (c.in-Some.place + 1) f c.args.self.now c.self.view_is c.self.invariant (omega arith) (omega (arith, (subst (λ (p : Option ℕ). IfSome p (λ place. place < length c.args.self.now.timers)) c.in-Some.is c.place_of.ensures.within))) in
    let ends = faulty_end c.args.now (c.in-Some.place + 1) unfetched zone_fault.Fetch mid (zone_at f.published.version.zones (c.in-Some.place + 1)) c.note_end-in-FetchFault.new.self refl there (λ zone. (refl, refl)) c.note_end-in-FetchFault.ensures.feeder in
    order_ended c.note_end-in-FetchFault.result c.args.now c.in-Some.place c.args.order c.args.why unfetched f c.args.self.now c.note_end-in-FetchFault.new.self c.take.new.self c.note_end-in-FetchFault.new.text.items c.args.text.now.items c.self.view_is c.take.ensures.after (sym c.place_of.ensures.place ∙ c.in-Some.is) (ap end_of c.in-FetchFault.is) (on_ok c.note_end-in-FetchFault.result (λ line. (poll_line (c.in-Some.place + 1) (Err zone_fault.Fetch), line, ends)) c.note_end-in-FetchFault.ensures.line)
