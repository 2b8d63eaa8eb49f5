-- How many zones, timers and transfers there are stays the same.
use Rattle.std.proofs.Common.{◌≡◌, ◌==◌, ◌-◌, ◌≤◌, ℕ, List, [], ◌∷◌, Bool, true, false, true≢false, Option, Some, None, Result, Ok, Err, length, length-set, refl, sym, ◌∙◌, ap, arith}
use Rattle.std.specs.Prelude.{IfSome, IsSome, if◌then◌else◌, slice_get}
use Rattle.std.proofs.lemmas.Bool.Decides.{nat_tests}
use Rattle.std.proofs.lemmas.Option.{slice_get-get_or}
use Rattle.zone_rows.specs.declared.fault.ApplyFault.{ApplyFault}
use Rattle.zone_rows.specs.declared.zone.PlainZone.{PlainZone}
use Rattle.axfr_apply.specs.declared.fault.TransferError.{TransferError}
use Rattle.axfr_apply.specs.declared.taken.Taken.{Taken}
use Rattle.notify_poll.specs.Notifying.{brought_forward, changed_at, with_timer}
use Rattle.notify_poll.specs.Timers.{noted}
use Rattle.notify_poll.specs.declared.timer.Timer.{Timer}
use Rattle.policy_snapshot.specs.Policy.{PlainZones, zone_at}
use Rattle.policy_snapshot.specs.Stands.{PlainSnapshot}
use Rattle.policy_publish.specs.Lists.{Published}
use Rattle.policy_feed.specs.Taking.{Ends}
use Rattle.policy_feed.specs.declared.fault.FeedError.{FeedError}
use Rattle.policy_feed.specs.declared.fault.FeedError.TheVariants as feed_error
use Rattle.policy_feed.specs.declared.fault.FeedFault.TheVariants as feed_fault
use Rattle.policy_feed.specs.declared.polling.Polled.{Polled}
use Rattle.policy_feed.specs.declared.polling.Polled.TheVariants as polled

with_length : (change : Timer → Timer) (timers : List Timer) (place : ℕ) (found : Option Timer) → length (with_timer change timers place found) ≡ length timers
with_length change timers place None = refl
with_length change timers place (Some timer) = length-set timers place (change timer)

pub changed_length : (change : Timer → Timer) (timers : List Timer) (place : ℕ) → length (changed_at change timers place) ≡ length timers
changed_length change timers place = with_length change timers place (slice_get timers place)

pub brought_length : (second : ℕ) (timers : List Timer) (place : Option ℕ) → length (brought_forward second timers place) ≡ length timers
brought_length second timers None = refl
brought_length second timers (Some place) = changed_length (noted second) timers place

there_if : (b : Bool) (there : Option PlainZone) → b ≡ false → IsSome there → IsSome (if b then None else there)
there_if true there e some = absurd (true≢false e)
there_if false there e some = some

-- a policy has the zones of its numbers
pub zone_there : (zones : PlainZones) (number : ℕ) → 1 ≤ number → number ≤ length zones → IsSome (zone_at zones number)
zone_there [] number some fits = absurd (omega arith)
zone_there (zone ∷ zones) number some fits =
    let not_0 : (number == 0) ≡ false = grind (arith, nat_tests) in
    there_if (number == 0) (slice_get (zone ∷ zones) (number - 1)) not_0 (rw (slice_get-get_or (zone ∷ zones) (number - 1) zone (omega arith)) refl)

-- how many zones are published
abbrev zone_count : Published → ℕ
zone_count published = length published.version.zones

-- how many zones a snapshot has, or none
abbrev count_in : Result PlainSnapshot ApplyFault → ℕ
count_in (Ok snapshot) = length snapshot.zones
count_in (Err fault) = 0

end_keeps : (number : ℕ) (zone : PlainZone) (read : Result Taken TransferError) (told : Result Polled FeedError) (old new : Published) → Ends number zone read told old new → zone_count new ≡ zone_count old
end_keeps number zone read (Ok (polled.Current theirs)) old new h = ap zone_count h.1
end_keeps number zone read (Ok (polled.New told)) old new h = sym (ap count_in h.2.takes.version) ∙ length-set old.version.zones (number - 1) h.2.takes.next
end_keeps number zone read (Err feed_error.OutOfMemory) old new h = ap zone_count h
end_keeps number zone read (Err (feed_error.Fault (feed_fault.Transfer fault))) old new h = ap zone_count h.1
end_keeps number zone read (Err (feed_error.Fault (feed_fault.Apply fault))) old new h = ap zone_count h.3

-- the end of a poll opens no zone
pub zones_stay : (number : ℕ) (there : Option PlainZone) (read : Result Taken TransferError) (told : Result Polled FeedError) (old new : Published) → IsSome there → IfSome there (λ zone. Ends number zone read told old new) → length new.version.zones ≡ length old.version.zones
zones_stay number None read told old new some ends = cc
zones_stay number (Some zone) read told old new some ends = end_keeps number zone read told old new ends
