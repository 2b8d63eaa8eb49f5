use Rattle.std.proofs.Common.{◌≡◌, ◌∙◌, false, sym}
use Rattle.std.proofs.lemmas.Result.{err_from_is_err_and}
use Rattle.rpz_program.specs.Turns.{opens_at_once}
use Rattle.rpz_program.proofs.Held.{may_hold, opened_behind, opened_is, stopped_opening, stopped_waiting}
use Rattle.rpz_program.proofs.holding.hold_back.Goals as goal

pub returns-in_err-waited-clause-err : goal.returns-in_err-waited-clause-err
returns-in_err-waited-clause-err g c =
    let p = err_from_is_err_and c.from_residual.result c.from_residual.ensures.1 in
    let held : opens_at_once c.args.plan.now ≡ false = sym c.is_open_at_once.ensures ∙ c.if-is_open_at_once.false in
    rw p.1 (stopped_waiting c.args.plan.now c.args.began _ _ _ _ (c.in_err-waited.ensures.err (opens_at_once c.args.plan.now)) (may_hold _ held))

pub returns-in_err-open_wires-clause-err : goal.returns-in_err-open_wires-clause-err
returns-in_err-open_wires-clause-err g c =
    let p = err_from_is_err_and c.from_residual-in_err-open_wires.result c.from_residual-in_err-open_wires.ensures.1 in
    let held : opens_at_once c.args.plan.now ≡ false = sym c.is_open_at_once.ensures ∙ c.if-is_open_at_once.false in
    rw p.1 (stopped_opening c.args.plan.now c.args.began _ _ _ _ _ _ (c.in_ok-waited.ensures.ok (opens_at_once c.args.plan.now)) (may_hold _ held))

pub returns-clause-ok : goal.returns-clause-ok
returns-clause-ok g c =
    let held : opens_at_once c.args.plan.now ≡ false = sym c.is_open_at_once.ensures ∙ c.if-is_open_at_once.false in
    let opened = c.in_ok-open_wires.ensures in
    opened_behind c.args.plan.now c.args.began _ _ _ _ _ _ _ (c.in_ok-waited.ensures.ok (opens_at_once c.args.plan.now)) (may_hold _ held) held c.in_ok-waited.ensures.may_open
    (opened_is c.args.plan.now _ _ _ _ _ _ _ _ (opens_at_once c.args.plan.now) opened.told opened.orders)
