use Rattle.std.proofs.Common.{◌≡◌, ◌≤◌, Result, Ok, length, ap, ◌∙◌, subst}
use Rattle.std.specs.Arc.{arc_value}
use Rattle.policy_snapshot.specs.Policy.{zone_at}
use Rattle.policy_snapshot.specs.Stands.{PlainSnapshot}
use Rattle.ixfr_apply.specs.Offer.{offer, wanted_by}
use Rattle.rpz_core.specs.declared.event.CoreFault.{CoreFault}
use Rattle.rpz_core.specs.declared.event.Output.{Output}
use Rattle.rpz_core.specs.Offered.{core_by_offered, policy_by_offered}
use Rattle.rpz_core.specs.State.{CoreState, transfer_step}
use Rattle.rpz_core.proofs.Settled.{as_many_zones, number_bounds, transferred}
use Rattle.rpz_core.proofs.policy_core.Core.take_transfer.Goals as goal

pub settle-requires-clause-low : goal.settle-requires-clause-low
settle-requires-clause-low c = (number_bounds c.deref.result.now.zones c.args.number c.in-Some.zone.now c.in-Some.ensures).0

pub settle-requires-clause-high : goal.settle-requires-clause-high
settle-requires-clause-high c =
    subst (λ (p : PlainSnapshot). c.args.number ≤ length p.zones) (c.deref.ensures ∙ ap (λ (s : CoreState). s.policy) c.self.view_is)
    (number_bounds c.deref.result.now.zones c.args.number c.in-Some.zone.now c.in-Some.ensures).1

pub settle-requires-clause-zones : goal.settle-requires-clause-zones
settle-requires-clause-zones c =
    let offered = c.in_ok-offered.offered in
    subst (λ (p : PlainSnapshot). length (policy_by_offered p offered).zones ≡ length p.zones) (c.deref-2.ensures ∙ ap (λ (s : CoreState). s.policy) c.self.view_is)
    (as_many_zones c.deref-2.result.now c.args.number (offer 0 c.get-marked.result c.in-Some.zone.now c.args.stream) offered c.in_ok-offered.ensures)

pub returns : goal.returns
returns c =
    let core : CoreState = record {
      origins = c.self.inside.origins.items;
      allowed = c.self.inside.allowed;
      policy = arc_value c.self.inside.policy;
      marks = c.self.inside.marks;
      timers = c.self.inside.timers;
      sessions = c.self.inside.sessions;
      clock = c.self.inside.clock;
    } in
    let n = c.args.number in
    let now = c.settle.new.self in
    let out = c.in_ok-settle.field-0 in
    subst (λ (s : CoreState). let step : Result (CoreState × Output) CoreFault = transfer_step s n c.args.stream (zone_at s.policy.zones n) in step ≡ Ok (now, out)) c.self.view_is
    (transferred core now n c.args.stream c.in-Some.zone.now c.in_ok-offered.offered c.get-marked.result c.mark_after-mark.result c.polling-polling.result c.wanted-wanted.result c.deref.result.now c.deref-2.result.now out
    c.deref.ensures c.deref-2.ensures c.in-Some.ensures c.get-marked.ensures (c.wanted-wanted.ensures ∙ ap (wanted_by c.get-marked.result) c.serial.ensures) c.in_ok-offered.ensures c.mark_after-mark.ensures c.polling-polling.ensures
    (ap (λ (s : CoreState). core_by_offered s n c.mark_after-mark.result c.polling-polling.result c.in_ok-offered.offered) c.self.view_is ∙ c.in_ok-settle.ensures))
