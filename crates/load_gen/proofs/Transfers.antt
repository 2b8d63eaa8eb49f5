-- The one transfer of a load is taken.
use Rattle.std.proofs.Common.{◌≡◌, ℕ, ◌+◌, ◌<◌, ◌≤◌, Bool, true, false, List, [], ◌∷◌, ◌++◌, length, Some, Result, Ok, Err, refl, sym, ap, ◌∙◌, subst, arith, ◌-◌}
use Rattle.std.specs.Prelude.{IfSome, cond, fold, map, nat_lt, slice_set}
use Rattle.std.proofs.lemmas.Bool.{lt-ltb}
use Rattle.std.proofs.lemmas.List.{length-map, length_push}
use Rattle.dns_record.specs.declared.soa.Soa.{Soa}
use Rattle.dns_record.specs.Record.{PlainRecord}
use Rattle.dns_record.specs.Row.{PlainRow, row_of}
use Rattle.zone_rows.specs.declared.fault.ApplyFault.{ApplyFault}
use Rattle.zone_rows.specs.declared.fault.ApplyError.{ApplyError}
use Rattle.zone_rows.specs.declared.fault.ApplyError.TheVariants as errors
use Rattle.zone_rows.specs.declared.transfer.Transfer.TheVariants.{Whole}
use Rattle.zone_rows.specs.declared.zone.PlainZone.{PlainZone}
use Rattle.zone_rows.specs.declared.zone.TheConstants.{ROW_LIMIT}
use Rattle.zone_rows.specs.Content.{unloaded}
use Rattle.zone_rows.specs.Repeats.{has_row, with_row, without_repeats}
use Rattle.zone_rows.specs.Zone.{Gives, apply_outcome, apply_outcome_within}
use Rattle.policy_override.specs.ZoneSet.{given_zones, overrides_in}
use Rattle.policy_snapshot.specs.Policy.{PlainPolicy, PlainZones, zone_at, zone_by, zones_behind}
use Rattle.policy_snapshot.specs.Stands.{PlainSnapshot, new_snapshot, policy_in, with_zone}
use Rattle.load_gen.specs.Summed.{load_policy, load_soa, origin}
use Rattle.dns_name.proofs.Binding.{ok_is}

-- ---- there are no more rows without repeats

with_row_by : (rows : List PlainRow) (row : PlainRow) (there : Bool) → length (cond there rows (rows ++ row ∷ [])) ≤ length rows + 1
with_row_by rows row true = omega arith
with_row_by rows row false = omega (arith, length_push rows row)

few_from : (before rows : List PlainRow) → length (fold with_row before rows) ≤ length before + length rows
few_from before [] = omega arith
few_from before (row ∷ rows) = omega (arith, few_from (with_row before row) rows, with_row_by before row (has_row before row))

few : (rows : List PlainRow) → length (without_repeats rows) ≤ length rows
unfolding without_repeats
few rows = omega (arith, few_from [] rows)

-- ---- the transfer

-- the zone behind the transfer
abbrev pub zone_of : List (List ℕ) → Soa → List PlainRow → PlainZone
zone_of origin soa rows = record { origin = origin; content = Some (record { soa = soa; rows = without_repeats rows }) }

zone_by_test : (origin : List (List ℕ)) (soa : Soa) (rows : List PlainRow) (fits : Bool) → nat_lt (length (without_repeats rows)) ROW_LIMIT ≡ fits → fits ≡ true
    → apply_outcome (unloaded origin) (Whole soa rows) ≡ Ok (zone_of origin soa rows)
unfolding apply_outcome_within
zone_by_test origin soa rows true e t = rw e refl
zone_by_test origin soa rows false e t = absurd cc

pub is_taken : (origin : List (List ℕ)) (soa : Soa) (rows : List PlainRow) → length rows < ROW_LIMIT → apply_outcome (unloaded origin) (Whole soa rows) ≡ Ok (zone_of origin soa rows)
is_taken origin soa rows lt =
    let less : length (without_repeats rows) < ROW_LIMIT = omega (arith, few rows) in
    zone_by_test origin soa rows true (lt-ltb _ _ less) refl

-- ---- the policy

after_one : (rows : List PlainRow) → zones_behind (origin ∷ []) (record { zone = 1; transfer = Whole load_soa rows } ∷ [])
    ≡ slice_set (unloaded origin ∷ []) (1 - 1) (zone_by (unloaded origin) (apply_outcome (unloaded origin) (Whole load_soa rows)))
unfolding zones_behind
after_one rows = refl

-- it is the policy of the load, and no fault
abbrev pub Brings : List PlainRecord → Result PlainSnapshot ApplyError → Type 0
Brings records (Ok policy) = policy_in policy ≡ load_policy records
Brings records (Err (errors.Fault fault)) = ⊥
Brings records (Err errors.OutOfMemory) = Unit {0}

abbrev Applies : PlainSnapshot → Soa → List PlainRow → Result PlainSnapshot ApplyError → Type 0
Applies empty soa rows result = IfSome (zone_at empty.zones 1) (λ zone. Gives result (with_zone empty 1 (apply_outcome zone (Whole soa rows))))

abbrev under_given : PlainZones → PlainPolicy
under_given zones = record { zones = zones; overrides = overrides_in (given_zones (origin ∷ [])) }

brings_by : (records : List PlainRecord) (result : Result PlainSnapshot ApplyError) → length records < ROW_LIMIT
    → Applies (new_snapshot (given_zones (origin ∷ []))) load_soa (map row_of records) result → Brings records result
brings_by records (Ok policy) lt h =
    let rows = map row_of records in
    let less : length rows < ROW_LIMIT = omega (arith, length-map records row_of) in
    let taken = is_taken origin load_soa rows less in
    let zone = zone_of origin load_soa rows in
    let whole : with_zone (new_snapshot (given_zones (origin ∷ []))) 1 (Ok zone) ≡ Ok policy =
    ap (λ (o : Result PlainZone ApplyFault). with_zone (new_snapshot (given_zones (origin ∷ []))) 1 o) (sym taken) ∙ h in
    let same = ok_is {E = ApplyFault} _ policy whole in
    ap policy_in (sym same)
    ∙ sym (ap under_given (after_one rows ∙ ap (λ (o : Result PlainZone ApplyFault). slice_set (unloaded origin ∷ []) (1 - 1) (zone_by (unloaded origin) o)) taken))
brings_by records (Err (errors.Fault fault)) lt h =
    let rows = map row_of records in
    let less : length rows < ROW_LIMIT = omega (arith, length-map records row_of) in
    let taken = is_taken origin load_soa rows less in
    let whole : with_zone (new_snapshot (given_zones (origin ∷ []))) 1 (Ok (zone_of origin load_soa rows)) ≡ Err fault =
    ap (λ (o : Result PlainZone ApplyFault). with_zone (new_snapshot (given_zones (origin ∷ []))) 1 o) (sym taken) ∙ h in
    absurd cc
brings_by records (Err errors.OutOfMemory) lt h = tt

pub brings : (records : List PlainRecord) (empty : PlainSnapshot) (soa : Soa) (rows : List PlainRow) (result : Result PlainSnapshot ApplyError) → length records < ROW_LIMIT
    → empty ≡ new_snapshot (given_zones (origin ∷ [])) → soa ≡ load_soa → rows ≡ map row_of records → Applies empty soa rows result → Brings records result
brings records empty soa rows result lt a b d h =
    let first = subst (λ (s : PlainSnapshot). Applies s soa rows result) a h in
    let second = subst (λ (s : Soa). Applies (new_snapshot (given_zones (origin ∷ []))) s rows result) b first in
    brings_by records result lt (subst (λ (r : List PlainRow). Applies (new_snapshot (given_zones (origin ∷ []))) load_soa r result) d second)
