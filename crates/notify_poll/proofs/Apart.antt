-- A zone's timer is changed by nothing but the events about this zone.
use Rattle.std.proofs.Common.{◌≡◌, ◌≢◌, ℕ, zero, suc, Bool, true, false, cond, Option, Some, None, List, [], ◌∷◌, refl, sym, ap, ◌∙◌}
use Rattle.std.specs.Prelude.{slice_get, slice_set, ◌==◌}
use Rattle.std.specs.Option.{option_map}
use Rattle.std.proofs.lemmas.Bool.{eqb-true, eqb-false}
use Rattle.notify_poll.specs.History.{PollEvent, about, place_of, timer_after, timer_behind, timers_after}
use Rattle.notify_poll.specs.Notifying.{brought_forward, changed_at, with_timer}
use Rattle.notify_poll.specs.Timers.{noted}
use Rattle.notify_poll.specs.declared.timer.Timer.{Timer}

module _ {X : Type 0} where
  set_get : (xs : List X) (place : ℕ) (x y : X) → slice_get xs place ≡ Some x → slice_get (slice_set xs place y) place ≡ Some y
  set_get [] place x y e = absurd cc
  set_get (z ∷ xs) zero x y e = refl
  set_get (z ∷ xs) (suc place) x y e = set_get xs place x y e

  set_get_other : (xs : List X) (place other : ℕ) (y : X) → other ≢ place → slice_get (slice_set xs place y) other ≡ slice_get xs other
  set_get_other [] place other y apart = refl
  set_get_other (z ∷ xs) zero zero y apart = absurd (apart refl)
  set_get_other (z ∷ xs) zero (suc other) y apart = refl
  set_get_other (z ∷ xs) (suc place) zero y apart = refl
  set_get_other (z ∷ xs) (suc place) (suc other) y apart = set_get_other xs place other y (λ e. apart (ap suc e))

-- the timer at the place that is changed, and at any other
at_its_place : (change : Timer → Timer) (timers : List Timer) (place : ℕ) (found : Option Timer) → slice_get timers place ≡ found → slice_get (with_timer change timers place found) place ≡ option_map change found
at_its_place change timers place None e = e
at_its_place change timers place (Some timer) e = set_get timers place timer (change timer) e

at_another : (change : Timer → Timer) (timers : List Timer) (place other : ℕ) (found : Option Timer) → other ≢ place → slice_get (with_timer change timers place found) other ≡ slice_get timers other
at_another change timers place other None apart = refl
at_another change timers place other (Some timer) apart = set_get_other timers place other (change timer) apart

pub others_stay : (second : ℕ) (timers : List Timer) (place other : ℕ) → other ≢ place → slice_get (brought_forward second timers (Some place)) other ≡ slice_get timers other
others_stay second timers place other apart = at_another (noted second) timers place other (slice_get timers place) apart

map_map : (f g : Timer → Timer) (found : Option Timer) → option_map f (option_map g found) ≡ option_map (λ timer. f (g timer)) found
map_map f g None = refl
map_map f g (Some timer) = refl

-- one event more, which is about this zone or about another
one_more : (event : PollEvent) (now : List Timer) (place : ℕ) (first : Option Timer) (earlier : List PollEvent) (is_about : Bool)
    → (is_about ≡ true → place_of event ≡ place) → (is_about ≡ false → place ≢ place_of event)
    → slice_get now place ≡ option_map (λ timer. timer_after timer earlier) first
    → slice_get (changed_at (timer_behind event) now (place_of event)) place ≡ option_map (λ timer. timer_after timer (cond is_about (event ∷ earlier) earlier)) first
one_more event now place first earlier true here _ e =
    ap (λ at. slice_get (changed_at (timer_behind event) now at) place) (here refl)
    ∙ at_its_place (timer_behind event) now place (slice_get now place) refl
    ∙ ap (option_map (timer_behind event)) e
    ∙ map_map (timer_behind event) (λ timer. timer_after timer earlier) first
one_more event now place first earlier false _ apart e =
    at_another (timer_behind event) now (place_of event) place (slice_get now (place_of event)) (apart refl) ∙ e

none_yet : (first : Option Timer) → first ≡ option_map (λ timer. timer_after timer []) first
none_yet None = refl
none_yet (Some timer) = refl

pub own_timer : (timers : List Timer) (events : List PollEvent) (place : ℕ) → slice_get (timers_after timers events) place ≡ option_map (λ timer. timer_after timer (about place events)) (slice_get timers place)
own_timer timers [] place = none_yet (slice_get timers place)
own_timer timers (event ∷ earlier) place =
    one_more event (timers_after timers earlier) place (slice_get timers place) (about place earlier) (place_of event == place) (eqb-true (place_of event) place) (λ e same. eqb-false (place_of event) place e (sym same)) (own_timer timers earlier place)
