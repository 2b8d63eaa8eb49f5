-- What one more transfer does to a version, and to what it stands for.
use Rattle.std.proofs.Common.{◌≡◌, ℕ, zero, suc, ◌-◌, ◌==◌, Bool, true, false, Option, Some, None, Result, Ok, Err, List, [], ◌∷◌, ◌++◌, map, refl, sym, ap, subst, ◌∙◌, true≢false}
use Rattle.std.specs.Prelude.{IsSome, IfSome, fold, slice_set, slice_get, if◌then◌else◌}
use Rattle.zone_rows.specs.declared.fault.ApplyFault.{ApplyFault}
use Rattle.zone_rows.specs.declared.fault.ApplyError.{ApplyError}
use Rattle.zone_rows.specs.declared.transfer.Transfer.{Transfer}
use Rattle.zone_rows.specs.declared.zone.PlainZone.{PlainZone}
use Rattle.zone_rows.specs.Content.{unloaded}
use Rattle.zone_rows.specs.Zone.{Gives, apply_outcome}
use Rattle.policy_override.specs.declared.zone_set.ZoneSet.{ZoneSet}
use Rattle.policy_override.specs.ZoneSet.{origins_in}
use Rattle.policy_snapshot.specs.declared.entry.Entry.{Entry}
use Rattle.std.specs.Option.{is_some}
use Rattle.policy_snapshot.specs.Policy.{AreAccepted, AreTaken, PlainZones, TakesTransfer, zone_at, zones_behind, zones_with}
use Rattle.policy_snapshot.specs.Stands.{PlainSnapshot, Stands, StandsFor, next_count, origins_of, with_zone}
use Rattle.policy_snapshot.proofs.Standing.{origin_stays, place_of}
use Rattle.policy_publish.specs.Publishing.{HasSize, Takes}
use Rattle.policy_publish.specs.declared.publication.Publication.{Publication}

-- ---- what the result of a transfer says

-- the zone takes the transfer, and the new version has it as it is then
record IsNext (number : ℕ) (zone : PlainZone) (transfer : Transfer) (old new : PlainSnapshot) : Type 0 where
  next : PlainZone
  taken : apply_outcome zone transfer ≡ Ok next
  version : record { zones = slice_set old.zones (number - 1) next; overrides = old.overrides; accepted = next_count old.accepted } ≡ new

module _ (old : PlainSnapshot) (number : ℕ) (zone : PlainZone) (transfer : Transfer) where
  next_if : (outcome : Result PlainZone ApplyFault) (new : PlainSnapshot) → apply_outcome zone transfer ≡ outcome → with_zone old number outcome ≡ Ok new → IsNext number zone transfer old new
  next_if (Ok next) new is e = record { next = next; taken = is; version = cc e }
  next_if (Err fault) new is e = absurd cc

-- ---- origins stay

origins_set : (zones : List PlainZone) (place : ℕ) (zone next : PlainZone) → slice_get zones place ≡ Some zone → next.origin ≡ zone.origin → origins_of (slice_set zones place next) ≡ origins_of zones
origins_set [] place zone next found same = absurd cc
origins_set (first ∷ zones) zero zone next found same = let is : first ≡ zone = cc in ap (λ (o : List (List ℕ)). o ∷ origins_of zones) (same ∙ sym (ap (λ (z : PlainZone). z.origin) is))
origins_set (first ∷ zones) (suc place) zone next found same = ap (λ (l : List (List (List ℕ))). first.origin ∷ l) (origins_set zones place zone next found same)

origins_stay : (number : ℕ) (zone : PlainZone) (transfer : Transfer) (old new : PlainSnapshot) → zone_at old.zones number ≡ Some zone → IsNext number zone transfer old new → origins_of new.zones ≡ origins_of old.zones
origins_stay number zone transfer old new at takes =
    sym (ap (λ (s : PlainSnapshot). origins_of s.zones) takes.version)
    ∙ origins_set old.zones (number - 1) zone takes.next (place_of old.zones number zone at) (origin_stays zone takes.next transfer takes.taken)

-- ---- lists of accepted transfers

taken_push : (policy : PlainZones) (entries : List Entry) (entry : Entry) → AreTaken policy entries → TakesTransfer (zone_at (fold zones_with policy entries) entry.zone) entry.transfer → AreTaken policy (entries ++ entry ∷ [])
taken_push policy [] entry are takes = (takes, tt)
taken_push policy (first ∷ entries) entry are takes = (are.0, taken_push (zones_with policy first) entries entry are.1 takes)

accepted_push : (origins : List (List (List ℕ))) (entries : List Entry) (entry : Entry) → AreAccepted origins entries → TakesTransfer (zone_at (zones_behind origins entries) entry.zone) entry.transfer → AreAccepted origins (entries ++ entry ∷ [])
unfolding zones_behind
accepted_push origins entries entry are takes = taken_push (map unloaded origins) entries entry are takes

takes_at : (found : Option PlainZone) (number : ℕ) (zone : PlainZone) (transfer : Transfer) (old new : PlainSnapshot) → found ≡ Some zone → IsNext number zone transfer old new → TakesTransfer found transfer
takes_at found number zone transfer old new at takes = subst (λ (o : Option PlainZone). TakesTransfer o transfer) (sym at) (takes.next, takes.taken)

-- the version after one more transfer stands for the list with it at the end
stands_for_next : (settings : List ZoneSet) (number : ℕ) (zone : PlainZone) (transfer : Transfer) (old new : PlainSnapshot) (entries : List Entry) → zone_at old.zones number ≡ Some zone → IsNext number zone transfer old new
    → (Stands old entries → Stands new (entries ++ record { zone = number; transfer = transfer } ∷ [])) → StandsFor settings old entries
    → StandsFor settings new (entries ++ record { zone = number; transfer = transfer } ∷ [])
stands_for_next settings number zone transfer old new entries at takes goes stands =
    let entry : Entry = record { zone = number; transfer = transfer } in
    let origins = origins_in settings in
    let zones : old.zones ≡ zones_behind origins entries = stands.stands.zones ∙ ap (λ (o : List (List (List ℕ))). zones_behind o entries) stands.origins_are in
    let here : zone_at (zones_behind origins entries) number ≡ Some zone = ap (λ (z : PlainZones). zone_at z number) (sym zones) ∙ at in
    record {
      origins_are = origins_stay number zone transfer old new at takes ∙ stands.origins_are;
      overrides_are = sym (ap (λ (s : PlainSnapshot). s.overrides) takes.version) ∙ stands.overrides_are;
      stands = goes stands.stands;
      accepted = accepted_push origins entries entry stands.accepted (takes_at (zone_at (zones_behind origins entries) number) number zone transfer old new here takes);
    }

-- ---- the zone afterwards

get_set : (zones : List PlainZone) (place : ℕ) (zone next : PlainZone) → slice_get zones place ≡ Some zone → slice_get (slice_set zones place next) place ≡ Some next
get_set [] place zone next found = absurd cc
get_set (first ∷ zones) zero zone next found = refl
get_set (first ∷ zones) (suc place) zone next found = get_set zones place zone next found

at_if : (b : Bool) (zones : List PlainZone) (place : ℕ) (zone next : PlainZone) → (if b then None else slice_get zones place) ≡ Some zone → (if b then None else slice_get (slice_set zones place next) place) ≡ Some next
at_if true zones place zone next found = absurd cc
at_if false zones place zone next found = get_set zones place zone next found

-- the zone is there as it is after the transfer
next_at : (number : ℕ) (zone : PlainZone) (transfer : Transfer) (old new : PlainSnapshot) (takes : IsNext number zone transfer old new) → zone_at old.zones number ≡ Some zone → zone_at new.zones number ≡ Some takes.next
next_at number zone transfer old new takes at =
    sym (ap (λ (s : PlainSnapshot). zone_at s.zones number) takes.version) ∙ at_if (number == 0) old.zones (number - 1) zone takes.next at

-- ---- the same of a zone that is there

abbrev Applied : PlainSnapshot → ℕ → Transfer → Option PlainZone → Result PlainSnapshot ApplyError → Type 0
Applied old number transfer found result = IfSome found (λ zone. Gives result (with_zone old number (apply_outcome zone transfer)))

module _ (number : ℕ) (transfer : Transfer) (old : PlainSnapshot) where
  takes_if : (found : Option PlainZone) (new : PlainSnapshot) (told : Publication) → zone_at old.zones number ≡ found → Applied old number transfer found (Ok new) → IfSome (zone_at new.zones number) (λ zone. HasSize told zone.content)
      → IfSome found (λ zone. Takes number zone transfer told old new)
  takes_if None new told at h size = tt
  takes_if (Some zone) new told at h size =
      let is = next_if old number zone transfer (apply_outcome zone transfer) new refl h in
      record {
        next = is.next;
        taken = is.taken;
        size = subst (λ (o : Option PlainZone). IfSome o (λ zone. HasSize told zone.content)) (next_at number zone transfer old new is at) size;
        version = ap Ok (is.version);
      }

  pub takes_ok : (new : PlainSnapshot) (told : Publication) → Applied old number transfer (zone_at old.zones number) (Ok new) → IfSome (zone_at new.zones number) (λ zone. HasSize told zone.content)
      → IfSome (zone_at old.zones number) (λ zone. Takes number zone transfer told old new)
  takes_ok new told h size = takes_if (zone_at old.zones number) new told refl h size

  there_if : (found : Option PlainZone) (new : PlainSnapshot) → zone_at old.zones number ≡ found → IsSome found → Applied old number transfer found (Ok new) → IsSome (zone_at new.zones number)
  there_if None new at some h = absurd (true≢false (sym some))
  there_if (Some zone) new at some h = ap is_some (next_at number zone transfer old new (next_if old number zone transfer (apply_outcome zone transfer) new refl h) at)

  -- the zone is there afterwards
  pub still_there : (new : PlainSnapshot) → IsSome (zone_at old.zones number) → Applied old number transfer (zone_at old.zones number) (Ok new) → IsSome (zone_at new.zones number)
  still_there new some h = there_if (zone_at old.zones number) new refl some h

  stands_if : (found : Option PlainZone) (settings : List ZoneSet) (new : PlainSnapshot) (entries : List Entry) → zone_at old.zones number ≡ found → IsSome found → Applied old number transfer found (Ok new)
      → (Stands old entries → Stands new (entries ++ record { zone = number; transfer = transfer } ∷ [])) → StandsFor settings old entries
      → StandsFor settings new (entries ++ record { zone = number; transfer = transfer } ∷ [])
  stands_if None settings new entries at some h goes stands = absurd (true≢false (sym some))
  stands_if (Some zone) settings new entries at some h goes stands =
      stands_for_next settings number zone transfer old new entries at (next_if old number zone transfer (apply_outcome zone transfer) new refl h) goes stands

  pub stands_ok : (new : PlainSnapshot) (settings : List ZoneSet) (entries : List Entry) → IsSome (zone_at old.zones number) → Applied old number transfer (zone_at old.zones number) (Ok new)
      → (Stands old entries → Stands new (entries ++ record { zone = number; transfer = transfer } ∷ [])) → StandsFor settings old entries
      → StandsFor settings new (entries ++ record { zone = number; transfer = transfer } ∷ [])
  stands_ok new settings entries some h goes stands = stands_if (zone_at old.zones number) settings new entries refl some h goes stands

-- ---- behind handles

-- the same of the versions as handles on them are seen
pub takes_as_seen : (number : ℕ) (transfer : Transfer) (size : Publication) (old seen new shown : PlainSnapshot) → old ≡ seen → shown ≡ new → IfSome (zone_at old.zones number) (λ zone. Takes number zone transfer size old new)
    → IfSome (zone_at seen.zones number) (λ zone. Takes number zone transfer size seen shown)
takes_as_seen number transfer size old seen new shown before after takes =
    subst (λ (s : PlainSnapshot). IfSome (zone_at seen.zones number) (λ zone. Takes number zone transfer size seen s)) (sym after)
    (subst (λ (s : PlainSnapshot). IfSome (zone_at s.zones number) (λ zone. Takes number zone transfer size s new)) before takes)
