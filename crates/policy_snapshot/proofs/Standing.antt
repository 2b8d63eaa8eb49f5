-- A snapshot after one more transfer stands for a list with one entry more.
use Rattle.std.proofs.Common.{◌≡◌, ℕ, zero, suc, ◌+◌, ◌-◌, ◌==◌, Bool, true, false, Option, Some, None, Result, Ok, Err, List, [], ◌∷◌, ◌++◌, length, map, refl, sym, ap, subst, ◌∙◌, arith, length-append, get_or, true≢false}
use Rattle.std.specs.Prelude.{IfSome, IsErrAnd, IsSome, fold, slice_set, slice_get, if◌then◌else◌}
use Rattle.std.proofs.lemmas.Bool.Decides.{nat_tests}
use Rattle.std.proofs.lemmas.List.{length-map, length-set}
use Rattle.std.proofs.lemmas.List.Sums.{fold_push}
use Rattle.dns_record.specs.declared.soa.Soa.{Soa}
use Rattle.dns_record.specs.Row.{PlainRow}
use Rattle.dns_name.specs.Reading.{◌>>=◌}
use Rattle.zone_rows.specs.declared.fault.ApplyError.{ApplyError}
use Rattle.zone_rows.specs.declared.fault.ApplyError.TheVariants as errors
use Rattle.zone_rows.specs.declared.fault.ApplyFault.{ApplyFault}
use Rattle.zone_rows.specs.declared.transfer.Transfer.{Transfer}
use Rattle.zone_rows.specs.declared.transfer.Transfer.TheVariants.{Whole, Steps}
use Rattle.zone_rows.specs.declared.zone.Content.{Content}
use Rattle.zone_rows.specs.declared.zone.PlainZone.{PlainZone}
use Rattle.zone_rows.specs.declared.zone.TheConstants.{ROW_LIMIT}
use Rattle.zone_rows.specs.Content.{unloaded}
use Rattle.zone_rows.specs.Repeats.{without_repeats}
use Rattle.zone_rows.specs.Steps.{steps_outcome}
use Rattle.zone_rows.specs.Zone.{Fails, Gives, newer_soa, fewer_rows, apply_outcome, apply_outcome_within}
use Rattle.zone_index.specs.Indexed.{HasRows}
use Rattle.policy_override.specs.declared.overrides.Override.{Override}
use Rattle.policy_override.specs.declared.zone_set.ZoneSet.{ZoneSet}
use Rattle.policy_override.specs.ZoneSet.{origins_in}
use Rattle.policy_snapshot.specs.declared.entry.Entry.{Entry}
use Rattle.policy_snapshot.specs.Policy.{AreAccepted, AreTaken, TakesTransfer, PlainZones, zone_at, zone_by, zone_after, with_zone_after, zones_with, zones_behind}
use Rattle.policy_snapshot.specs.Stands.{HaveRows, PlainSnapshot, Stands, next_count, count_of, origins_of, with_zone}

pub zones_behind-push : (origins : List (List (List ℕ))) (entries : List Entry) (entry : Entry) → zones_behind origins (entries ++ entry ∷ []) ≡ zones_with (zones_behind origins entries) entry
unfolding zones_behind
zones_behind-push origins entries entry = fold_push zones_with (map unloaded origins) entries entry

pub zones_behind-none : (origins : List (List (List ℕ))) → zones_behind origins [] ≡ map unloaded origins
unfolding zones_behind
zones_behind-none origins = refl

origin_if : (zone next : PlainZone) (soa : Result Soa ApplyFault) (rows : Result (List PlainRow) ApplyFault) → (soa >>= λ newer. rows >>= λ kept. Ok (record { origin = zone.origin; content = Some (record { soa = newer; rows = kept }) })) ≡ Ok next → next.origin ≡ zone.origin
origin_if zone next (Ok soa) (Ok rows) e = let same : record { origin = zone.origin; content = Some (record { soa = soa; rows = rows }) } ≡ next = cc in sym (ap (λ (z : PlainZone). z.origin) same)
origin_if zone next (Ok soa) (Err fault) e = absurd cc
origin_if zone next (Err fault) rows e = absurd cc

origin_with : (zone next : PlainZone) (content : Result Content ApplyFault) → (content >>= λ now. Ok (record { origin = zone.origin; content = Some now })) ≡ Ok next → next.origin ≡ zone.origin
origin_with zone next (Ok content) e = let same : record { origin = zone.origin; content = Some content } ≡ next = cc in sym (ap (λ (z : PlainZone). z.origin) same)
origin_with zone next (Err fault) e = absurd cc

-- a transfer leaves the zone's origin
pub origin_stays : (zone next : PlainZone) (transfer : Transfer) → apply_outcome zone transfer ≡ Ok next → next.origin ≡ zone.origin
unfolding apply_outcome_within
origin_stays zone next (Whole soa rows) e = origin_if zone next (newer_soa zone.content soa) (fewer_rows ROW_LIMIT (without_repeats rows)) e
origin_stays zone next (Steps steps) e = origin_with zone next (steps_outcome ROW_LIMIT zone.content steps) e

origins_set : (zones : List PlainZone) (place : ℕ) (zone next : PlainZone) → slice_get zones place ≡ Some zone → next.origin ≡ zone.origin → origins_of (slice_set zones place next) ≡ origins_of zones
origins_set [] place zone next found same = absurd cc
origins_set (first ∷ zones) zero zone next found same = let is : first ≡ zone = cc in ap (λ (o : List (List ℕ)). o ∷ origins_of zones) (same ∙ sym (ap (λ (z : PlainZone). z.origin) is))
origins_set (first ∷ zones) (suc place) zone next found same = ap (λ (l : List (List (List ℕ))). first.origin ∷ l) (origins_set zones place zone next found same)

place_if : (b : Bool) (found : Option PlainZone) (zone : PlainZone) → (if b then None else found) ≡ Some zone → found ≡ Some zone
place_if true found zone e = absurd cc
place_if false found zone e = e

-- the zone of a number stands at the place before
pub place_of : (zones : List PlainZone) (number : ℕ) (zone : PlainZone) → zone_at zones number ≡ Some zone → slice_get zones (number - 1) ≡ Some zone
place_of zones number zone e = place_if (number == 0) (slice_get zones (number - 1)) zone e

count_next : (n : ℕ) → next_count (count_of n) ≡ count_of (n + 1)
count_next n = grind (arith, nat_tests)

with_next : (zones : List PlainZone) (number : ℕ) (transfer : Transfer) (zone next : PlainZone) → zone_at zones number ≡ Some zone → apply_outcome zone transfer ≡ Ok next
    → zones_with zones (record { zone = number; transfer = transfer }) ≡ slice_set zones (number - 1) next
with_next zones number transfer zone next at e =
    ap (with_zone_after zones (record { zone = number; transfer = transfer })) at ∙ ap (λ (o : Result PlainZone ApplyFault). slice_set zones (number - 1) (zone_by zone o)) e

-- the snapshot with the next zone stands for the list with the entry
pub stands_next : (old : PlainSnapshot) (entries : List Entry) (number : ℕ) (transfer : Transfer) (zone next : PlainZone) → Stands old entries → zone_at old.zones number ≡ Some zone → apply_outcome zone transfer ≡ Ok next
    → Stands (record { zones = slice_set old.zones (number - 1) next; overrides = old.overrides; accepted = next_count old.accepted }) (entries ++ record { zone = number; transfer = transfer } ∷ [])
stands_next old entries number transfer zone next stands at e =
    let entry : Entry = record { zone = number; transfer = transfer } in
    let origins = origins_set old.zones (number - 1) zone next (place_of old.zones number zone at) (origin_stays zone next transfer e) in
    record {
      zones =
          sym (with_next old.zones number transfer zone next at e)
          ∙ ap (λ (p : PlainZones). zones_with p entry) stands.zones
          ∙ sym (zones_behind-push (origins_of old.zones) entries entry)
          ∙ ap (λ (o : List (List (List ℕ))). zones_behind o (entries ++ entry ∷ [])) (sym origins);
      accepted = ap next_count stands.accepted ∙ count_next (length entries) ∙ ap count_of (sym (length-append entries (entry ∷ [])));
    }

-- one more transfer, as an entry of the list
pub policy_next : (origins : List (List (List ℕ))) (entries : List Entry) (number : ℕ) (transfer : Transfer) (zone next : PlainZone) → zone_at (zones_behind origins entries) number ≡ Some zone → apply_outcome zone transfer ≡ Ok next
    → zones_behind origins (entries ++ record { zone = number; transfer = transfer } ∷ []) ≡ slice_set (zones_behind origins entries) (number - 1) next
policy_next origins entries number transfer zone next at e =
    zones_behind-push origins entries (record { zone = number; transfer = transfer }) ∙ with_next (zones_behind origins entries) number transfer zone next at e

-- ---- lists of accepted transfers

taken_push : (policy : PlainZones) (entries : List Entry) (entry : Entry) → AreTaken policy entries → TakesTransfer (zone_at (fold zones_with policy entries) entry.zone) entry.transfer → AreTaken policy (entries ++ entry ∷ [])
taken_push policy [] entry are takes = (takes, tt)
taken_push policy (first ∷ entries) entry are takes = (are.0, taken_push (zones_with policy first) entries entry are.1 takes)

takes_at : (found : Option PlainZone) (zone next : PlainZone) (transfer : Transfer) → found ≡ Some zone → apply_outcome zone transfer ≡ Ok next → TakesTransfer found transfer
takes_at found zone next transfer at e = subst (λ (o : Option PlainZone). TakesTransfer o transfer) (sym at) (next, e)

-- one more transfer is accepted where its zone takes it
pub accepted_next : (origins : List (List (List ℕ))) (entries : List Entry) (number : ℕ) (transfer : Transfer) (zone next : PlainZone) → AreAccepted origins entries → zone_at (zones_behind origins entries) number ≡ Some zone → apply_outcome zone transfer ≡ Ok next
    → AreAccepted origins (entries ++ record { zone = number; transfer = transfer } ∷ [])
unfolding zones_behind
accepted_next origins entries number transfer zone next are at e =
    taken_push (map unloaded origins) entries (record { zone = number; transfer = transfer }) are (takes_at (zone_at (zones_behind origins entries) number) zone next transfer at e)

pub count_after : (n : ℕ) → next_count (count_of n) ≡ count_of (n + 1)
count_after n = count_next n

length_with : (zones : List PlainZone) (entry : Entry) (found : Option PlainZone) → length (with_zone_after zones entry found) ≡ length zones
length_with zones entry None = refl
length_with zones entry (Some zone) = length-set zones (entry.zone - 1) (zone_after zone entry.transfer)

length_fold : (zones : List PlainZone) (entries : List Entry) → length (fold zones_with zones entries) ≡ length zones
length_fold zones [] = refl
length_fold zones (entry ∷ entries) = length_fold (zones_with zones entry) entries ∙ length_with zones entry (zone_at zones entry.zone)

pub policy_length : (origins : List (List (List ℕ))) (entries : List Entry) → length (zones_behind origins entries) ≡ length origins
unfolding zones_behind
policy_length origins entries = length_fold (map unloaded origins) entries ∙ length-map origins unloaded

-- the zones of settings, with nothing loaded
pub unloaded_in : (settings : List ZoneSet) → map (λ (s : ZoneSet). unloaded s.origin) settings ≡ map unloaded (origins_in settings)
unloaded_in [] = refl
unloaded_in (set ∷ settings) = ap (λ (zones : List PlainZone). unloaded set.origin ∷ zones) (unloaded_in settings)

-- ---- rows that are rows

pub rows_set : (zones : List PlainZone) (place : ℕ) (next : PlainZone) → HaveRows zones → HasRows next.content → HaveRows (slice_set zones place next)
rows_set [] place next h is = h
rows_set (zone ∷ zones) zero next h is = (is, h.1)
rows_set (zone ∷ zones) (suc place) next h is = (h.0, rows_set zones place next h.1 is)

pub rows_none : (origins : List (List (List ℕ))) → HaveRows (map unloaded origins)
rows_none [] = tt
rows_none (origin ∷ origins) = (tt, rows_none origins)

-- ---- a snapshot by what code holds

at_if : (b : Bool) (found : Option PlainZone) (zone : PlainZone) → IsSome (if b then None else found) → (IsSome found → found ≡ Some zone) → (if b then None else found) ≡ Some zone
at_if true found zone is same = absurd (true≢false (sym is))
at_if false found zone is same = same is

module _ {Y : Type 0} (g : Y → PlainZone) where
  get_if : (ys : List Y) (k : ℕ) (y : Y) → y ≡ get_or ys k y → IsSome (slice_get (map g ys) k) → slice_get (map g ys) k ≡ Some (g y)
  get_if [] k y is some = absurd (true≢false (sym some))
  get_if (x ∷ ys) zero y is some = ap (λ (z : Y). Some (g z)) (sym is)
  get_if (x ∷ ys) (suc k) y is some = get_if ys k y is some

  -- the zone of a number, which code looked at
  pub seen_there : (zones : List PlainZone) (items : List Y) (number : ℕ) (item : Y) (seen : PlainZone) → map g items ≡ zones → IsSome (zone_at zones number) → item ≡ get_or items (number - 1) item → seen ≡ g item → zone_at zones number ≡ Some seen
  seen_there zones items number item seen are some is_item is_seen =
      let found = at_if (number == 0) (slice_get (map g items) (number - 1)) (g item) (subst (λ (z : List PlainZone). IsSome (zone_at z number)) (sym are) some) (get_if items (number - 1) item is_item) in
      ap (λ (z : List PlainZone). zone_at z number) (sym are) ∙ found ∙ ap Some (sym is_seen)

  -- the zones and the count are those of the snapshot with the next zone
  pub record IsNext (old : PlainSnapshot) (items made : List Y) (overrides carried : List Override) (accepted count number : ℕ) (transfer : Transfer) (item : Y) (seen next : PlainZone) : Type 0 where
    pub view : record { zones = map g items; overrides = overrides; accepted = accepted } ≡ old
    pub carried_is : overrides ≡ carried
    pub some : IsSome (zone_at old.zones number)
    pub is_item : item ≡ get_or items (number - 1) item
    pub is_seen : seen ≡ g item
    pub applied : apply_outcome seen transfer ≡ Ok next
    pub set : map g made ≡ slice_set (map g items) (number - 1) next
    pub counted : next_count accepted ≡ count

  module _ (old : PlainSnapshot) (items made : List Y) (overrides carried : List Override) (accepted count number : ℕ) (transfer : Transfer) (item : Y) (seen next : PlainZone) (is : IsNext old items made overrides carried accepted count number transfer item seen next) where
    zones_are : map g items ≡ old.zones
    zones_are = ap (λ (s : PlainSnapshot). s.zones) is.view

    seen_at : zone_at old.zones number ≡ Some seen
    seen_at = seen_there old.zones items number item seen zones_are is.some is.is_item is.is_seen

    abbrev set_next : PlainSnapshot
    set_next = record { zones = slice_set old.zones (number - 1) next; overrides = old.overrides; accepted = next_count old.accepted }

    abbrev made_next : PlainSnapshot
    made_next = record { zones = map g made; overrides = carried; accepted = count }

    same_next : set_next ≡ made_next
    same_next =
        let new_zones : slice_set old.zones (number - 1) next ≡ map g made = ap (λ (z : List PlainZone). slice_set z (number - 1) next) (sym zones_are) ∙ sym is.set in
        let new_count : next_count old.accepted ≡ count = ap next_count (sym (ap (λ (s : PlainSnapshot). s.accepted) is.view)) ∙ is.counted in
        let new_overrides : old.overrides ≡ carried = sym (ap (λ (s : PlainSnapshot). s.overrides) is.view) ∙ is.carried_is in
        λ i. record { zones = new_zones i; overrides = new_overrides i; accepted = new_count i }

    pub stands_after : (entries : List Entry) → Stands old entries → Stands made_next (entries ++ record { zone = number; transfer = transfer } ∷ [])
    stands_after entries stands =
        subst (λ (s : PlainSnapshot). Stands s (entries ++ record { zone = number; transfer = transfer } ∷ [])) same_next
        (stands_next old entries number transfer seen next stands seen_at is.applied)

    pub exact_after : IfSome (zone_at old.zones number) (λ zone. with_zone old number (apply_outcome zone transfer) ≡ Ok made_next)
    exact_after =
        subst (λ (found : Option PlainZone). IfSome found (λ zone. with_zone old number (apply_outcome zone transfer) ≡ Ok made_next)) (sym seen_at)
        (ap (with_zone old number) is.applied ∙ ap Ok same_next)

-- ---- a transfer that the zone can't take

fails_with : (e : ApplyError) (old : PlainSnapshot) (number : ℕ) (outcome : Result PlainZone ApplyFault) → Fails e outcome → Fails e (with_zone old number outcome)
fails_with errors.OutOfMemory old number outcome fails = tt
fails_with (errors.Fault f) old number outcome fails = ap (with_zone old number) fails

-- the error is told
pub fault_told : (old : PlainSnapshot) (number : ℕ) (zone : PlainZone) (transfer : Transfer) (r : Result PlainSnapshot ApplyError) (e : ApplyError) → IsErrAnd r (λ x. x ≡ e) → zone_at old.zones number ≡ Some zone → Fails e (apply_outcome zone transfer)
    → IfSome (zone_at old.zones number) (λ z. Gives r (with_zone old number (apply_outcome z transfer)))
fault_told old number zone transfer (Ok next) e same at fails = absurd same
fault_told old number zone transfer (Err x) e same at fails =
    subst (λ (found : Option PlainZone). IfSome found (λ z. Fails x (with_zone old number (apply_outcome z transfer)))) (sym at)
    (subst (λ (y : ApplyError). Fails y (with_zone old number (apply_outcome zone transfer))) (sym same) (fails_with e old number (apply_outcome zone transfer) fails))
