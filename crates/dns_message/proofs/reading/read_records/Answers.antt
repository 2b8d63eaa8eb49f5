use Rattle.std.proofs.Common.{refl, ◌∙◌}
use Rattle.std.proofs.lemmas.Result.{err_from_is_err_and}
use Rattle.dns_message.specs.Reading.{records_at}
use Rattle.dns_message.proofs.Loop.{starts, goes_on, stops, is_done}
use Rattle.dns_message.proofs.reading.read_records.Goals as goal

pub loop-i-init : goal.loop-i-init
loop-i-init c = (refl, rw c.new-records.ensures (starts c.args.names.now c.args.count c.args.at))

pub returns-in_err-rr-clause-read : goal.returns-in_err-rr-clause-read
returns-in_err-rr-clause-read c =
    let p = err_from_is_err_and c.from_residual.result c.from_residual.ensures.1 in
    let read = rw c.loop-i.invariant.0 at c.in_err-rr.ensures.read in
    rw p.1 (stops c.in_err-rr.field-0.0 p.0 c.args.names.now c.loop-i.records c.args.count c.loop-i.i c.loop-i.place (records_at c.args.count c.args.names.now c.args.at) c.loop-i-test.true p.2 read c.loop-i.invariant.1)

pub loop-i-preserved : goal.loop-i-preserved
loop-i-preserved c =
    let read = rw c.loop-i.invariant.0 at c.in_ok-rr.ensures.read in
    (c.in_ok-rr.ensures.same ∙ c.loop-i.invariant.0, rw c.in_ok-push.ensures.ok (goes_on c.args.names.now c.loop-i.records c.args.count c.loop-i.i c.loop-i.place c.in_ok-rr.rr c.in_ok-rr.after (records_at c.args.count c.args.names.now c.args.at) c.loop-i-test.true read c.loop-i.invariant.1))

pub returns-clause-read : goal.returns-clause-read
returns-clause-read c = is_done c.args.names.now c.loop-i.records c.args.count c.loop-i.i c.loop-i.place (records_at c.args.count c.args.names.now c.args.at) c.loop-i-test.false c.loop-i.invariant.1
