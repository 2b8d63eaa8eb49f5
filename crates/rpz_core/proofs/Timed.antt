-- What changes a timer changes no other, and not their number.
use Rattle.std.proofs.Common.{◌≡◌, ◌≢◌, ℕ, zero, suc, Option, Some, None, List, [], ◌∷◌, length, refl, ap}
use Rattle.std.specs.Prelude.{slice_get, slice_set}
use Rattle.std.proofs.lemmas.List.{length-set}
use Rattle.notify_poll.specs.Notifying.{brought_forward, changed_at, with_timer}
use Rattle.notify_poll.specs.Timers.{noted}
use Rattle.notify_poll.specs.declared.timer.Timer.{Timer}

with_length : (change : Timer → Timer) (timers : List Timer) (place : ℕ) (found : Option Timer) → length (with_timer change timers place found) ≡ length timers
with_length change timers place None = refl
with_length change timers place (Some timer) = length-set timers place (change timer)

pub changed_length : (change : Timer → Timer) (timers : List Timer) (place : ℕ) → length (changed_at change timers place) ≡ length timers
changed_length change timers place = with_length change timers place (slice_get timers place)

pub brought_length : (second : ℕ) (timers : List Timer) (place : Option ℕ) → length (brought_forward second timers place) ≡ length timers
brought_length second timers None = refl
brought_length second timers (Some place) = changed_length (noted second) timers place

set_other : (timers : List Timer) (place other : ℕ) (timer : Timer) → other ≢ place → slice_get (slice_set timers place timer) other ≡ slice_get timers other
set_other [] place other timer apart = refl
set_other (x ∷ timers) zero zero timer apart = absurd (apart refl)
set_other (x ∷ timers) zero (suc other) timer apart = refl
set_other (x ∷ timers) (suc place) zero timer apart = refl
set_other (x ∷ timers) (suc place) (suc other) timer apart = set_other timers place other timer (λ e. apart (ap suc e))

with_other : (change : Timer → Timer) (timers : List Timer) (place other : ℕ) (found : Option Timer) → other ≢ place → slice_get (with_timer change timers place found) other ≡ slice_get timers other
with_other change timers place other None apart = refl
with_other change timers place other (Some timer) apart = set_other timers place other (change timer) apart

pub changed_other : (change : Timer → Timer) (timers : List Timer) (place other : ℕ) → other ≢ place → slice_get (changed_at change timers place) other ≡ slice_get timers other
changed_other change timers place other apart = with_other change timers place other (slice_get timers place) apart
