-- What code keeps of what a policy does with a stream: see src/offer.rt.
use Rattle.std.specs.Prelude.{◌≡◌, ℕ, ◌-◌, Bool, false, ◌||◌, Option, Some, None}
use Rattle.axfr_apply.specs.declared.transfer_request.Wanted.{Wanted}
use Rattle.zone_rows.specs.declared.zone.Content.{Content}
use Rattle.zone_rows.specs.declared.zone.PlainZone.{PlainZone}
use Rattle.notify_poll.specs.declared.timer.Polling.{Polling}
use Rattle.notify_poll.specs.declared.timer.Polling.TheVariants.{Faulty}
use Rattle.notify_poll.specs.Notifying.{changed_at}
use Rattle.notify_poll.specs.Timers.{after_poll}
use Rattle.policy_snapshot.specs.Policy.{zone_at}
use Rattle.policy_snapshot.specs.Stands.{PlainSnapshot}
use Rattle.rpz_core.specs.declared.event.Output.{Output}
use Rattle.rpz_core.specs.declared.event.Output.TheVariants as output
use Rattle.rpz_core.specs.declared.offer.Offered.{Offered}
use Rattle.rpz_core.specs.declared.offer.Offered.TheVariants.{Takes, Current, Refuses}
use Rattle.ixfr_apply.specs.Offer.{Offer, takes, is_current, refuses, asks_newer}
use Rattle.rpz_core.specs.Offer.{polling_by, zone_taken}
use Rattle.ixfr_apply.specs.Marks.{with_mark}
use Rattle.rpz_core.specs.State.{CoreState, with_zone}

-- what code keeps of an offer to the zone of this number
abbrev pub IsOffer : Offered → PlainSnapshot → ℕ → Offer → Type 0
IsOffer (Takes next) policy number (takes transfer zone) = next ≡ with_zone policy number zone
IsOffer (Current serial) policy number (is_current theirs) = serial ≡ theirs
IsOffer (Refuses why) policy number (refuses refusal) = why ≡ refusal
IsOffer offered policy number offer = ⊥

-- whether a zone is marked afterwards
abbrev pub offered_mark : Bool → Wanted → Offered → Bool
offered_mark marked wanted (Takes next) = false
offered_mark marked wanted (Current theirs) = false
offered_mark marked wanted (Refuses why) = marked || asks_newer wanted

-- what the zone of this number outputs
abbrev pub offered_output : ℕ → Offered → Output
offered_output number (Takes next) = zone_taken number (zone_at next.zones number)
offered_output number (Current theirs) = output.Current number theirs
offered_output number (Refuses why) = output.Refused number why

abbrev pub zone_polling : Option PlainZone → Polling
zone_polling None = Faulty
zone_polling (Some zone) = polling_by zone.content

-- how the poll of the zone of this number ended, which held this
abbrev pub offered_polling : Option Content → ℕ → Offered → Polling
offered_polling content number (Takes next) = zone_polling (zone_at next.zones number)
offered_polling content number (Current theirs) = polling_by content
offered_polling content number (Refuses why) = Faulty

abbrev pub policy_by_offered : PlainSnapshot → Offered → PlainSnapshot
policy_by_offered policy (Takes next) = next
policy_by_offered policy (Current theirs) = policy
policy_by_offered policy (Refuses why) = policy

-- the core once this was offered to the zone of this number, which is marked afterwards or isn't, and whose poll ended so
abbrev pub core_by_offered : CoreState → ℕ → Bool → Polling → Offered → CoreState × Output
core_by_offered core number mark polling offered = (
  record {
    origins = core.origins;
    allowed = core.allowed;
    policy = policy_by_offered core.policy offered;
    marks = with_mark core.marks number mark;
    timers = changed_at (after_poll polling core.clock) core.timers (number - 1);
    sessions = core.sessions;
    clock = core.clock;
  },
  offered_output number offered,
)
