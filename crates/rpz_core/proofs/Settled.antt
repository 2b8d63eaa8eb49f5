-- What code keeps of an offer does what the offer does.
use Rattle.std.proofs.Common.{◌≡◌, ℕ, zero, suc, ◌-◌, ◌≤◌, ◌<◌, Bool, false, List, [], ◌∷◌, length, Option, Some, Result, Ok, refl, sym, ap, subst, ◌∙◌, arith}
use Rattle.std.specs.Prelude.{slice_get, ◌==◌}
use Rattle.std.proofs.lemmas.Bool.{cond_both, eqb-false}
use Rattle.std.proofs.lemmas.List.{length-set}
use Rattle.axfr_apply.specs.declared.transfer_request.Wanted.{Wanted}
use Rattle.zone_rows.specs.declared.zone.PlainZone.{PlainZone}
use Rattle.policy_snapshot.specs.Policy.{PlainZones, zone_at}
use Rattle.policy_snapshot.specs.Stands.{PlainSnapshot}
use Rattle.rpz_core.specs.declared.event.CoreFault.{CoreFault}
use Rattle.rpz_core.specs.declared.event.Output.{Output}
use Rattle.rpz_core.specs.declared.event.Output.TheVariants as output
use Rattle.rpz_core.specs.declared.offer.Offered.{Offered}
use Rattle.rpz_core.specs.declared.offer.Offered.TheVariants.{Takes, Current, Refuses}
use Rattle.ixfr_apply.specs.Marks.{mark_at, with_mark}
use Rattle.notify_poll.specs.declared.timer.Polling.{Polling}
use Rattle.notify_poll.specs.declared.timer.Polling.TheVariants.{Faulty}
use Rattle.notify_poll.specs.Notifying.{changed_at}
use Rattle.notify_poll.specs.Timers.{after_poll}
use Rattle.ixfr_apply.specs.Offer.{Offer, takes, is_current, refuses, offer, mark_after, wanted_of}
use Rattle.rpz_core.specs.Offer.{offer_output, polling_by, polling_of, zone_taken}
use Rattle.rpz_core.specs.Offered.{IsOffer, core_by_offered, offered_mark, offered_polling, policy_by_offered, zone_polling}
use Rattle.rpz_core.specs.State.{CoreState, core_after_offer, policy_by_offer, transfer_step}
use Rattle.rpz_core.proofs.Slots.{zone_set}

-- a place with an element is within the list
within : {X : Type 0} (xs : List X) (place : ℕ) (x : X) → slice_get xs place ≡ Some x → place < length xs
within [] place x e = absurd cc
within (y ∷ xs) zero x e = omega arith
within (y ∷ xs) (suc place) x e = omega (arith, within xs place x e)

-- the core after an offer
abbrev after : CoreState → ℕ → Bool → Wanted → PlainZone → Offer → CoreState × Output
after core number marked wanted zone o = (
  record {
    origins = core.origins;
    allowed = core.allowed;
    policy = policy_by_offer core.policy number o;
    marks = with_mark core.marks number (mark_after marked wanted o);
    timers = changed_at (after_poll (polling_of zone o) core.clock) core.timers (number - 1);
    sessions = core.sessions;
    clock = core.clock;
  },
  offer_output number o,
)

-- the core with this policy, this mark of the zone of a number, and a poll of it that ended so
abbrev with_all : CoreState → ℕ → PlainSnapshot → Bool → Polling → CoreState
with_all core number policy mark polling =
    record {
      origins = core.origins;
      allowed = core.allowed;
      policy = policy;
      marks = with_mark core.marks number mark;
      timers = changed_at (after_poll polling core.clock) core.timers (number - 1);
      sessions = core.sessions;
      clock = core.clock;
    }

same_after : (core : CoreState) (number : ℕ) (marked : Bool) (wanted : Wanted) (zone : PlainZone) (o : Offer) (offered : Offered) → zone_at core.policy.zones number ≡ Some zone → IsOffer offered core.policy number o
    → core_by_offered core number (offered_mark marked wanted offered) (offered_polling zone.content number offered) offered ≡ after core number marked wanted zone o
same_after core number marked wanted zone (takes transfer z) (Takes next) at e =
    let there : zone_at next.zones number ≡ Some z = ap (λ (p : PlainSnapshot). zone_at p.zones number) e ∙ zone_set core.policy.zones number zone z at in
    λ i. (with_all core number (e i) false (ap zone_polling there i), ap (zone_taken number) there i)
same_after core number marked wanted zone (is_current theirs) (Current serial) at e =
    λ i. (with_all core number core.policy false (polling_by zone.content), output.Current number (e i))
same_after core number marked wanted zone (refuses refusal) (Refuses why) at e =
    λ i. (with_all core number core.policy (mark_after marked wanted (refuses refusal)) Faulty, output.Refused number (e i))
same_after core number marked wanted zone (takes transfer z) (Current serial) at e = absurd e
same_after core number marked wanted zone (takes transfer z) (Refuses why) at e = absurd e
same_after core number marked wanted zone (is_current theirs) (Takes next) at e = absurd e
same_after core number marked wanted zone (is_current theirs) (Refuses why) at e = absurd e
same_after core number marked wanted zone (refuses refusal) (Takes next) at e = absurd e
same_after core number marked wanted zone (refuses refusal) (Current serial) at e = absurd e

-- the core once an offer to a zone is done
pub settled : (core : CoreState) (number : ℕ) (stream : List ℕ) (zone : PlainZone) (offered : Offered) → zone_at core.policy.zones number ≡ Some zone
    → IsOffer offered core.policy number (offer 0 (mark_at core.marks number) zone stream)
    → core_by_offered core number (offered_mark (mark_at core.marks number) (wanted_of (mark_at core.marks number) zone.content) offered) (offered_polling zone.content number offered) offered
    ≡ core_after_offer core number zone (offer 0 (mark_at core.marks number) zone stream)
settled core number stream zone offered at is =
    let marked = mark_at core.marks number in
    same_after core number marked (wanted_of marked zone.content) zone (offer 0 marked zone stream) offered at is

-- what a transfer does, where its zone was found, and what it offered was done
pub transferred : (core now : CoreState) (number : ℕ) (stream : List ℕ) (zone : PlainZone) (offered : Offered) (marked mark : Bool) (polling : Polling) (wanted : Wanted) (first second : PlainSnapshot) (out : Output)
    → first ≡ core.policy → second ≡ core.policy → Some zone ≡ zone_at first.zones number → marked ≡ mark_at core.marks number → wanted ≡ wanted_of marked zone.content
    → IsOffer offered second number (offer 0 marked zone stream) → mark ≡ offered_mark marked wanted offered → polling ≡ offered_polling zone.content number offered
    → core_by_offered core number mark polling offered ≡ (now, out)
    → transfer_step core number stream (zone_at core.policy.zones number) ≡ Ok (now, out)
transferred core now number stream zone offered marked mark polling wanted first second out is_first is_second found marked_is wanted_is is mark_is polling_is done =
    let there : zone_at core.policy.zones number ≡ Some zone = ap (λ (p : PlainSnapshot). zone_at p.zones number) (sym is_first) ∙ sym found in
    let offers : IsOffer offered core.policy number (offer 0 (mark_at core.marks number) zone stream) =
    subst (λ (m : Bool). IsOffer offered core.policy number (offer 0 m zone stream)) marked_is (subst (λ (p : PlainSnapshot). IsOffer offered p number (offer 0 marked zone stream)) is_second is) in
    let wants : wanted ≡ wanted_of (mark_at core.marks number) zone.content = wanted_is ∙ ap (λ (m : Bool). wanted_of m zone.content) marked_is in
    let marks : mark ≡ offered_mark (mark_at core.marks number) (wanted_of (mark_at core.marks number) zone.content) offered = mark_is ∙ (λ i. offered_mark (marked_is i) (wants i) offered) in
    let gives : core_after_offer core number zone (offer 0 (mark_at core.marks number) zone stream) ≡ (now, out) =
    sym (settled core number stream zone offered there offers) ∙ (λ i. core_by_offered core number (sym marks i) (sym polling_is i) offered) ∙ done in
    subst (λ (z : Option PlainZone). transfer_step core number stream z ≡ Ok (now, out)) (sym there) (ap (λ (g : CoreState × Output). let r : Result (CoreState × Output) CoreFault = Ok g in r) gives)

-- the zone of a number that there is
pub number_bounds : (policy : PlainZones) (number : ℕ) (zone : PlainZone) → Some zone ≡ zone_at policy number → (1 ≤ number) × (number ≤ length policy)
number_bounds policy number zone =
    cond_both (number == 0) _ _ (λ (found : Option PlainZone). Some zone ≡ found → (1 ≤ number) × (number ≤ length policy))
    (λ t e. absurd cc)
    (λ t e. let there : 1 ≤ number = omega (arith, eqb-false number 0 t) in (there, omega (arith, there, within policy (number - 1) zone (sym e))))

-- no offer opens a zone
pub as_many_zones : (policy : PlainSnapshot) (number : ℕ) (o : Offer) (offered : Offered) → IsOffer offered policy number o → length (policy_by_offered policy offered).zones ≡ length policy.zones
as_many_zones policy number (takes transfer z) (Takes next) e = ap (λ (p : PlainSnapshot). length p.zones) e ∙ length-set policy.zones (number - 1) z
as_many_zones policy number o (Current serial) e = refl
as_many_zones policy number o (Refuses why) e = refl
as_many_zones policy number (is_current theirs) (Takes next) e = absurd e
as_many_zones policy number (refuses refusal) (Takes next) e = absurd e
