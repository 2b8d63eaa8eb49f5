-- What a wake comes to.
use Rattle.std.proofs.Common.{◌≡◌, ◌⊎◌, ◌+◌, ◌≤◌, ℕ, zero, suc, List, [], ◌∷◌, ◌++◌, true, true≢false, Option, Some, None, Result, Ok, Err, length, get_or, refl, sym, ◌∙◌, ap, subst, inl, inr}
use Rattle.std.specs.Prelude.{IsSome, OnOk, position, slice_get, slice_set}
use Rattle.std.proofs.lemmas.List.Quantifiers.{position-Some}
use Rattle.std.proofs.lemmas.Option.{slice_get-get_or}
use Rattle.server_io.specs.declared.wake.Order.{Order}
use Rattle.server_io.specs.declared.wake.OrderEnd.{OrderEnd}
use Rattle.server_io.specs.declared.wake.Wake.{Wake}
use Rattle.server_io.specs.declared.wake.Wake.TheVariants as wake
use Rattle.zone_rows.specs.declared.zone.PlainZone.{PlainZone}
use Rattle.axfr_apply.specs.declared.fault.TransferError.{TransferError}
use Rattle.axfr_apply.specs.declared.fault.TransferError.TheVariants as errors
use Rattle.axfr_apply.specs.declared.taken.Taken.{Taken}
use Rattle.axfr_apply.specs.Reading.{TransferOutcome}
use Rattle.script_codec.specs.declared.zone_fault.ZoneFault.{ZoneFault}
use Rattle.policy_snapshot.specs.Policy.{zone_at}
use Rattle.policy_feed.specs.Ending.{EndGives, EndsPoll, EndsReading, PollEnd, poll_ends, poll_taken}
use Rattle.policy_feed.specs.Feed.{Feed, IsFed, PlainFeeder, PlainPoll}
use Rattle.policy_feed.specs.Lines.{poll_line}
use Rattle.policy_feed.specs.Reading.{HearsMessage, heard_by}
use Rattle.policy_feed.specs.Waking.{EndsAt, HearsAt, HearsBy, WakeDoes, end_of, is_by_order, place_with, poll_goes_on}
use Rattle.policy_feed.specs.declared.under_way.Heard.TheVariants.{Ended}
use Rattle.policy_feed.proofs.Begun.{on_ok}
use Rattle.policy_feed.proofs.Kept.{zone_there}

-- the zone of a timer is there
pub zone_in : (number : ℕ) (f before : PlainFeeder) → f ≡ before → IsFed f → 1 ≤ number → number ≤ length before.timers → IsSome (zone_at f.published.version.zones number)
zone_in number f before view fed low high =
    zone_there f.published.version.zones number low (subst (λ (n : ℕ). number ≤ n) fed.timers (subst (λ (x : PlainFeeder). number ≤ length x.timers) (sym view) high))

-- ---- nothing more comes of an order

pub ends_nowhere : (second : ℕ) (order : Order) (why : OrderEnd) (before : PlainFeeder) (found : Option ℕ) → found ≡ place_with order before → found ≡ None → EndsAt second (place_with order before) why before [] before
ends_nowhere second order why before found at none = subst (λ (p : Option ℕ). EndsAt second p why before [] before) (sym none ∙ at) (refl, refl)

-- the poll of the place has ended
pub order_ended : {E : Type 0} (result : Result (Unit {0}) E) (second place : ℕ) (order : Order) (why : OrderEnd) (by : PollEnd) (f before after : PlainFeeder) (slot : Option PlainPoll) (text old : List ℕ) → f ≡ before → slot ≡ None → place_with order before ≡ Some place → end_of why ≡ Some by
    → OnOk result ((lines : List ℕ) × (text ≡ old ++ lines) × EndsPoll second (place + 1) by (record f { polls = slice_set f.polls place slot }) lines after) → OnOk result ((lines : List ℕ) × (text ≡ old ++ lines) × EndsAt second (place_with order before) why before lines after)
order_ended result second place order why by f before after slot text old view slot_is at end_is ends =
    on_ok result (λ h. (h.0, h.1, at_place h.0 (subst (λ (s : Option PlainPoll). EndsPoll second (place + 1) by (record f { polls = slice_set f.polls place s }) h.0 after) slot_is h.2))) ends
  where
    at_place : (lines : List ℕ) → EndsPoll second (place + 1) by (poll_taken f place) lines after → EndsAt second (place_with order before) why before lines after
    at_place lines h = subst (λ (p : Option ℕ). EndsAt second p why before lines after) (sym at) (by, end_is, subst (λ (x : PlainFeeder). EndsPoll second (place + 1) by (poll_taken x place) lines after) view h)

-- no transfer was read
pub faulty_end : (second number : ℕ) (by : PollEnd) (why : ZoneFault) (f : PlainFeeder) (found : Option PlainZone) (after : PlainFeeder) → zone_at f.published.version.zones number ≡ found → IsSome found → ((zone : PlainZone) → EndGives number zone by (Err why) f.published f.published)
    → after ≡ poll_ends second f number (Err why) f.published → EndsPoll second number by f (poll_line number (Err why)) after
faulty_end second number by why f None after at some gives is = cc
faulty_end second number by why f (Some zone) after at some gives is =
    record { zone = zone; is_zone = at; gives = Err why; published = f.published; ends = gives zone; lines_are = refl; after_is = is }

-- ---- a message of an order

pub hears_nowhere : (second : ℕ) (order : Order) (message : List ℕ) (before : PlainFeeder) (found : Option ℕ) → found ≡ place_with order before → found ≡ None → HearsAt second (place_with order before) message before [] before
hears_nowhere second order message before found at none = subst (λ (p : Option ℕ). HearsAt second p message before [] before) (sym none ∙ at) (refl, refl)

-- what stands at the place of an order has this order
has_order : (order : Order) (polls : List (Option PlainPoll)) (place : ℕ) (d slot : Option PlainPoll) → position (is_by_order order) polls ≡ Some place → slot ≡ get_or polls place d → is_by_order order slot ≡ true
has_order order polls place d slot at is = ap (is_by_order order) is ∙ (position-Some (is_by_order order) polls place d at).1

pub a_poll_there : (order : Order) (polls : List (Option PlainPoll)) (place : ℕ) (d slot : Option PlainPoll) → position (is_by_order order) polls ≡ Some place → slot ≡ get_or polls place d → slot ≡ None → ⊥
a_poll_there order polls place d slot at is none = true≢false (sym (has_order order polls place d slot at is) ∙ ap (is_by_order order) none)

poll_at : (order : Order) (polls : List (Option PlainPoll)) (place : ℕ) (d : Option PlainPoll) (poll : PlainPoll) → position (is_by_order order) polls ≡ Some place → Some poll ≡ get_or polls place d → slice_get polls place ≡ Some (Some poll)
poll_at order polls place d poll at is = slice_get-get_or polls place d (position-Some (is_by_order order) polls place d at).0 ∙ ap (λ (s : Option PlainPoll). Some s) (sym is)

-- what is heard by the poll of a place is heard at the order's place
heard_at : (second place : ℕ) (order : Order) (message : List ℕ) (f before after : PlainFeeder) (poll : PlainPoll) (d : Option PlainPoll) (lines : List ℕ) → f ≡ before → place_with order f ≡ Some place → Some poll ≡ get_or f.polls place d
    → HearsBy second place poll message f (heard_by poll message) lines after → HearsAt second (place_with order before) message before lines after
heard_at second place order message f before after poll d lines view at is hears =
    subst (λ (x : PlainFeeder). HearsAt second (place_with order x) message x lines after) view
    (subst (λ (p : Option ℕ). HearsAt second p message f lines after) (sym at) (poll, poll_at order f.polls place d poll at is, hears))

-- a place is set again
set_again : (xs : List (Option PlainPoll)) (i : ℕ) (a b : Option PlainPoll) → slice_set (slice_set xs i a) i b ≡ slice_set xs i b
set_again [] i a b = refl
set_again (x ∷ xs) zero a b = refl
set_again (x ∷ xs) (suc i) a b = ap (λ (l : List (Option PlainPoll)). x ∷ l) (set_again xs i a b)

pub goes_on : (second place : ℕ) (order : Order) (message : List ℕ) (f before : PlainFeeder) (poll next : PlainPoll) (d gone slot : Option PlainPoll) → f ≡ before → place_with order f ≡ Some place → Some poll ≡ get_or f.polls place d → heard_by poll message ≡ None
    → next ≡ record poll { messages = poll.messages ++ message ∷ [] } → slot ≡ Some next → HearsAt second (place_with order before) message before [] (record f { polls = slice_set (slice_set f.polls place gone) place slot })
goes_on second place order message f before poll next d gone slot view at is more next_is slot_is =
    let after : PlainFeeder = record f { polls = slice_set (slice_set f.polls place gone) place slot } in
    let set : after.polls ≡ (poll_goes_on f place poll message).polls = set_again f.polls place gone slot ∙ ap (slice_set f.polls place) (slot_is ∙ ap (λ (x : PlainPoll). Some x) next_is) in
    let same : after ≡ poll_goes_on f place poll message = ap (λ (ps : List (Option PlainPoll)). let x : PlainFeeder = record f { polls = ps } in x) set in
    heard_at second place order message f before after poll d [] view at is (subst (λ (o : Option TransferOutcome). HearsBy second place poll message f o [] after) (sym more) (refl, same))

hears_end : (second place : ℕ) (message : List ℕ) (f after : PlainFeeder) (poll : PlainPoll) (read : Result Taken TransferError) (lines : List ℕ) → HearsMessage poll message (Ended read) → EndsReading second (place + 1) read (poll_taken f place) lines after → HearsBy second place poll message f (heard_by poll message) lines after
hears_end second place message f after poll (Ok taken) lines heard ends = subst (λ (o : Option TransferOutcome). HearsBy second place poll message f o lines after) (sym heard) ends
hears_end second place message f after poll (Err (errors.Fault fault)) lines heard ends = subst (λ (o : Option TransferOutcome). HearsBy second place poll message f o lines after) (sym heard) ends
hears_end second place message f after poll (Err errors.OutOfMemory) lines heard ends = absurd ends

pub hears_last : {E : Type 0} (result : Result (Unit {0}) E) (second place : ℕ) (order : Order) (message : List ℕ) (f before after : PlainFeeder) (poll : PlainPoll) (d slot : Option PlainPoll) (read : Result Taken TransferError) (text old : List ℕ) → f ≡ before → place_with order f ≡ Some place → Some poll ≡ get_or f.polls place d
    → slot ≡ None → HearsMessage poll message (Ended read) → OnOk result ((lines : List ℕ) × (text ≡ old ++ lines) × EndsReading second (place + 1) read (record f { polls = slice_set f.polls place slot }) lines after)
    → OnOk result ((lines : List ℕ) × (text ≡ old ++ lines) × HearsAt second (place_with order before) message before lines after)
hears_last result second place order message f before after poll d slot read text old view at is gone heard ends =
    on_ok result (λ h. (h.0, h.1, heard_at second place order message f before after poll d h.0 view at is (hears_end second place message f after poll read h.0 heard (subst (λ (s : Option PlainPoll). EndsReading second (place + 1) read (record f { polls = slice_set f.polls place s }) h.0 after) gone h.2)))) ends

-- ---- the other wakes

pub does_nothing : (second : ℕ) (state : Feed) (woken : Wake) → (woken ≡ wake.Due) ⊎ ((dropped : ℕ) × (woken ≡ wake.Ended dropped)) → WakeDoes second state woken [] None state
does_nothing second state woken (inl is) = subst (λ (w : Wake). WakeDoes second state w [] None state) (sym is) (refl, refl, refl)
does_nothing second state woken (inr is) = subst (λ (w : Wake). WakeDoes second state w [] None state) (sym is.1) (refl, refl, refl)
