-- A zone refuses a transfer that fits it for its rows alone.
use Rattle.std.specs.Prelude.{◌≡◌, ℕ, ◌+◌, ◌==◌, nat_lt, Bool, true, false, not, ◌&&◌, ◌||◌, if◌then◌else◌, List, [], ◌∷◌, ◌++◌, length, Option, Some, None, option_map, Result, Ok, Err, IfErr, refl}
use Rattle.std.proofs.Common.{subst}
use Rattle.std.proofs.lemmas.Bool.{eq-eqb}
use Rattle.dns_name.specs.Reading.{◌>>=◌}
use Rattle.dns_record.specs.declared.soa.Soa.{Soa}
use Rattle.dns_record.specs.Row.{PlainRow}
use Rattle.dns_record.specs.Serial.{is_newer}
use Rattle.zone_rows.specs.declared.fault.ApplyFault.{ApplyFault}
use Rattle.zone_rows.specs.declared.fault.ApplyFault.TheVariants.{SerialNotNewer, Gap, DeleteAbsent, AddPresent, TooManyRows}
use Rattle.zone_rows.specs.declared.transfer.Transfer.{Transfer}
use Rattle.zone_rows.specs.declared.transfer.Transfer.TheVariants.{Whole, Steps}
use Rattle.zone_rows.specs.declared.zone.Content.{Content}
use Rattle.zone_rows.specs.declared.zone.PlainZone.{PlainZone}
use Rattle.zone_rows.specs.declared.zone.TheConstants.{ROW_LIMIT}
use Rattle.zone_rows.specs.Repeats.{has_row, without_repeats}
use Rattle.zone_rows.specs.Steps.{PlainStep, after_steps, rows_after_step, steps_outcome, with_added, without_deleted, without_row}
use Rattle.zone_rows.specs.Zone.{apply_outcome, apply_outcome_within, fewer_rows, newer_soa}
use Rattle.axfr_apply.specs.declared.fault.TransferFault.{TransferFault}
use Rattle.axfr_apply.specs.declared.fault.TransferFault.TheVariants as stream
use Rattle.axfr_apply.specs.declared.taken.Taken.TheVariants as taken
use Rattle.axfr_apply.specs.Reading.{End, TransferOutcome, forward_fault}
use Rattle.ixfr_apply.specs.declared.refusal.Refusal.TheVariants as refusal
use Rattle.ixfr_apply.specs.Offer.{refuses, offer, offer_by_outcome, offer_by_reading, request_of, wanted_by, wanted_of}
use Rattle.ixfr_apply.specs.Stream.{reading}
use Rattle.policy_feed.specs.Laws.{IsAboutRows}
use Rattle.policy_feed.proofs.FitBlocks.{GoesOn, StepsFit, TransferFits, no_more}
use Rattle.policy_feed.proofs.FitStreams.{reading_fits}

-- a result whose fault, if any, is one of the rows
abbrev FailsByRows : {X : Type 0} → Result X ApplyFault → Type 0
FailsByRows outcome = IfErr outcome IsAboutRows

rows_if : {X : Type 0} (b : Bool) (x y : Result X ApplyFault) → FailsByRows x → FailsByRows y → FailsByRows (if b then x else y)
rows_if true x y p q = p
rows_if false x y p q = q

rows_then : {X Y : Type 0} (x : Result X ApplyFault) (f : X → Result Y ApplyFault) → FailsByRows x → ((v : X) → FailsByRows (f v)) → FailsByRows (x >>= f)
rows_then (Ok v) f p q = q v
rows_then (Err fault) f p q = p

deleted_rows : (step number : ℕ) (rows out : List PlainRow) → FailsByRows (without_deleted step number rows out)
deleted_rows step number rows [] = tt
deleted_rows step number rows (row ∷ others) =
    rows_if (has_row rows row) (without_deleted step (number + 1) (without_row rows row) others) (Err (DeleteAbsent step number))
    (deleted_rows step (number + 1) (without_row rows row) others) tt

added_rows : (bound step number : ℕ) (rows more : List PlainRow) → FailsByRows (with_added bound step number rows more)
added_rows bound step number rows [] = tt
added_rows bound step number rows (row ∷ others) =
    let rest = with_added bound step (number + 1) (rows ++ row ∷ []) others in
    rows_if (has_row rows row) (Err (AddPresent step number)) (if nat_lt (length rows + 1) bound then rest else Err (TooManyRows bound)) tt
    (rows_if (nat_lt (length rows + 1) bound) rest (Err (TooManyRows bound)) (added_rows bound step (number + 1) (rows ++ row ∷ []) others) tt)

stepped_rows : (bound number : ℕ) (rows : List PlainRow) (step : PlainStep) → FailsByRows (rows_after_step bound number rows step)
stepped_rows bound number rows step =
    rows_then (without_deleted number 1 rows step.deleted) (λ kept. with_added bound number 1 kept step.added)
    (deleted_rows number 1 rows step.deleted) (λ kept. added_rows bound number 1 kept step.added)

steps_rows : (bound number : ℕ) (soa : Soa) (rows : List PlainRow) (steps : List PlainStep) → FailsByRows (after_steps bound number soa rows steps)
steps_rows bound number soa rows [] = tt
steps_rows bound number soa rows (step ∷ steps) =
    rows_then (rows_after_step bound number rows step) (λ after. after_steps bound (number + 1) step.new after steps)
    (stepped_rows bound number rows step) (λ after. steps_rows bound (number + 1) step.new after steps)

-- steps that begin at the zone's version
begun_rows : (b : Bool) (one other : Result Content ApplyFault) → b ≡ true → FailsByRows one → FailsByRows (if b then one else other)
begun_rows true one other e p = p
begun_rows false one other e p = absurd cc

goes_forward : (b : Bool) (fault : TransferFault) → option_map {U = End} Err (if b then None else Some fault) ≡ None → b ≡ true
goes_forward true fault e = refl
goes_forward false fault e = cc

-- the first SOA of a transfer that goes on is newer than what the zone holds
is_forward : (marked : Bool) (ours theirs : ℕ) → GoesOn (wanted_by marked (Some ours)) theirs → is_newer ours theirs ≡ true
is_forward true ours theirs goes =
    goes_forward (is_newer ours theirs) (stream.SerialNotNewer ours theirs)
    (no_more (theirs == ours) (Ok theirs) (option_map Err (forward_fault ours theirs)) goes.1)
is_forward false ours theirs goes =
    goes_forward (is_newer ours theirs) (stream.SerialNotNewer ours theirs)
    (no_more (theirs == ours || (goes.0 && not (is_newer ours theirs))) (Ok theirs) (option_map Err (forward_fault ours theirs)) goes.1)

newer_rows : (b : Bool) (soa : Soa) (fault : ApplyFault) → b ≡ true → FailsByRows (if b then Ok soa else Err fault)
newer_rows true soa fault e = tt
newer_rows false soa fault e = absurd cc

soa_rows : (marked : Bool) (content : Option Content) (soa : Soa) → GoesOn (wanted_of marked content) soa.serial → FailsByRows (newer_soa content soa)
soa_rows marked None soa goes = tt
soa_rows marked (Some content) soa goes =
    newer_rows (is_newer content.soa.serial soa.serial) soa (SerialNotNewer content.soa.serial soa.serial) (is_forward marked content.soa.serial soa.serial goes)

content_rows : (marked : Bool) (bound : ℕ) (content : Option Content) (steps : List PlainStep) → StepsFit (wanted_of marked content) steps → FailsByRows (steps_outcome bound content steps)
content_rows marked bound content [] fits = absurd fits
content_rows marked bound None (step ∷ steps) fits = absurd fits
content_rows true bound (Some content) (step ∷ steps) fits = absurd fits
content_rows false bound (Some content) (step ∷ steps) fits =
    begun_rows (step.old.serial == content.soa.serial) (after_steps bound 1 content.soa content.rows (step ∷ steps)) (Err (Gap content.soa.serial step.old.serial))
    (eq-eqb step.old.serial content.soa.serial fits) (steps_rows bound 1 content.soa content.rows (step ∷ steps))

zone_rows : (marked : Bool) (zone : PlainZone) (transfer : Transfer) → TransferFits (wanted_of marked zone.content) transfer → FailsByRows (apply_outcome zone transfer)
unfolding apply_outcome_within
zone_rows marked zone (Whole soa rows) fits =
    rows_then (newer_soa zone.content soa) (λ newer. fewer_rows ROW_LIMIT (without_repeats rows) >>= (λ kept. Ok (record { origin = zone.origin; content = Some (record { soa = newer; rows = kept }) })))
    (soa_rows marked zone.content soa fits)
    (λ newer. rows_then (fewer_rows ROW_LIMIT (without_repeats rows)) (λ kept. Ok (record { origin = zone.origin; content = Some (record { soa = newer; rows = kept }) }))
    (rows_if (nat_lt (length (without_repeats rows)) ROW_LIMIT) (Ok (without_repeats rows)) (Err (TooManyRows ROW_LIMIT)) tt tt) (λ kept. tt))
zone_rows marked zone (Steps steps) fits =
    rows_then (steps_outcome ROW_LIMIT zone.content steps) (λ content. Ok (record { origin = zone.origin; content = Some content }))
    (content_rows marked ROW_LIMIT zone.content steps fits) (λ content. tt)

-- what was refused, by what was read
applied_rows : (transfer : Transfer) (outcome : Result PlainZone ApplyFault) (fault : ApplyFault) → FailsByRows outcome → offer_by_outcome transfer outcome ≡ refuses (refusal.Apply fault) → IsAboutRows fault
applied_rows transfer (Ok next) fault rows e = absurd cc
applied_rows transfer (Err other) fault rows e = let same : other ≡ fault = cc in subst IsAboutRows same rows

read_rows : (id : ℕ) (marked : Bool) (zone : PlainZone) (stream : List ℕ) (fault : ApplyFault) (outcome : TransferOutcome) → (reading (request_of id marked zone) stream).0 ≡ outcome
    → offer_by_reading zone outcome ≡ refuses (refusal.Apply fault) → IsAboutRows fault
read_rows id marked zone stream fault (Ok (taken.Current theirs)) read e = absurd cc
read_rows id marked zone stream fault (Ok (taken.New transfer)) read e =
    applied_rows transfer (apply_outcome zone transfer) fault (zone_rows marked zone transfer (reading_fits (request_of id marked zone) transfer stream read)) e
read_rows id marked zone stream fault (Err other) read e = absurd cc

pub refused_for_rows : (id : ℕ) (marked : Bool) (zone : PlainZone) (stream : List ℕ) (fault : ApplyFault) → offer id marked zone stream ≡ refuses (refusal.Apply fault) → IsAboutRows fault
refused_for_rows id marked zone stream fault e = read_rows id marked zone stream fault (reading (request_of id marked zone) stream).0 refl e
