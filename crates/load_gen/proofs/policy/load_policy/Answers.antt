use Rattle.std.proofs.Common.{Result, Ok, Err, subst}
use Rattle.zone_rows.specs.declared.fault.ApplyError.{ApplyError}
use Rattle.policy_snapshot.specs.Stands.{PlainSnapshot}
use Rattle.load_gen.proofs.Transfers.{Brings, brings}
use Rattle.load_gen.proofs.policy.load_policy.Goals as goal

pub returns-in-Ok : goal.returns-in-Ok
returns-in-Ok c =
    brings c.args.records.now c.in_ok-empty.empty c.in_ok-load_soa.field-0 c.in_ok-rows_of.field-0 (Ok c.in-Ok.policy) c.requires.few
    c.in_ok-empty.ensures c.in_ok-load_soa.ensures c.in_ok-rows_of.ensures c.in-Ok.ensures.exact

pub unreachable-requires : goal.unreachable-requires
unreachable-requires c =
    subst (λ (e : ApplyError). let r : Result PlainSnapshot ApplyError = Err e in Brings c.args.records.now r) c.in-Err-Fault.field-0-is
    (brings c.args.records.now c.in_ok-empty.empty c.in_ok-load_soa.field-0 c.in_ok-rows_of.field-0 (Err c.in-Err-Fault.field-0) c.requires.few
    c.in_ok-empty.ensures c.in_ok-load_soa.ensures c.in_ok-rows_of.ensures c.in-Err-Fault.ensures.exact)
