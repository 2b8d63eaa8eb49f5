use Rattle.std.proofs.Common.{◌≡◌, sym, ◌∙◌, ap}
use Rattle.edge_io.proofs.Written.{on_err}
use Rattle.policy_feed.specs.Feed.{first_feeder}
use Rattle.rpz_program.proofs.Kept.{opened, opened_zones}
use Rattle.rpz_program.proofs.Runs.{begins_so, on_ok, serves_too, stops_too}
use Rattle.rpz_program.proofs.serving.serve_over.Goals as goal

pub start-requires : goal.start-requires
start-requires g c =
    let made = c.in_ok-publisher.ensures in
    record { zones = c.requires.primaries ∙ sym (opened_zones c.args.parts.settings c.in_ok-publisher.publisher (rw (← c.requires.store) at made.list.1)) }

pub returns-clause-ok : goal.returns-clause-ok
returns-clause-ok g c =
    let made = c.in_ok-publisher.ensures in
    let none = opened c.args.parts.settings c.in_ok-publisher.publisher made.list.0 (rw (← c.requires.store) at made.list.1) (rw (← c.requires.store) at made.marks) in
    let feeder = (rw (← c.requires.store) at c.in_ok-feeder.ensures) ∙ ap (λ o. first_feeder c.args.parts.allowed o c.args.zones.primaries.items c.in_ok-publisher.publisher c.now-now.result) c.requires.origins in
    on_ok c.serve_open-served.result (serves_too _ _ _ _ _ _ _ (begins_so _ _ _ _ (g.C.Clock.moments c.now-now.new.self) feeder none c.now-now.ensures)) c.serve_open-served.ensures.ok

pub returns-clause-err : goal.returns-clause-err
returns-clause-err g c =
    let made = c.in_ok-publisher.ensures in
    let none = opened c.args.parts.settings c.in_ok-publisher.publisher made.list.0 (rw (← c.requires.store) at made.list.1) (rw (← c.requires.store) at made.marks) in
    let feeder = (rw (← c.requires.store) at c.in_ok-feeder.ensures) ∙ ap (λ o. first_feeder c.args.parts.allowed o c.args.zones.primaries.items c.in_ok-publisher.publisher c.now-now.result) c.requires.origins in
    on_err c.serve_open-served.result (stops_too _ _ _ _ _ _ (begins_so _ _ _ _ (g.C.Clock.moments c.now-now.new.self) feeder none c.now-now.ensures)) c.serve_open-served.ensures.err
