-- What is known of the zones of a policy together, for one kind of trigger.
use Rattle.std.specs.Prelude.{ℕ, ◌==◌, ◌&&◌, Bool, true, false, if◌then◌else◌, List, [], Option, Some, None}
use Rattle.std.specs.BTreeMap.{insert_entry, is_at}
use Rattle.std.specs.List.{list_any}
use Rattle.std.specs.Map.{lookup, remove_entry}
use Rattle.std.specs.declared.cmp.Ordering.{Ordering}
use Rattle.trie_keys.specs.declared.marked.Marked.{Marked}
use Rattle.summary_index.specs.Zones.{has_zone}

-- zones at a trigger, which is in a trie
abbrev pub Standing : Type 0
Standing = Marked ℕ Bool

-- the zones that have rules of the kind; whether the kind is listed; and where it is, the zones that have a rule of each trigger
pub record PlainSummary (K : Type 0) : Type 0 where
  pub having : ℕ
  pub is_listed : Bool
  pub triggers : List (K × Standing)

-- no zone has rules of the kind
abbrev pub no_rules : {K : Type 0} → PlainSummary K
no_rules = record { having = 0; is_listed = false; triggers = [] }

-- the zones at a trigger, of which there are none where it isn't in the trie
abbrev pub zones_in : Option Standing → ℕ
zones_in None = 0
zones_in (Some v) = v.value

abbrev pub zones_at : {K : Type 0} → (K → K → Ordering) → K → List (K × Standing) → ℕ
zones_at order key triggers = zones_in (lookup (is_at (order key)) triggers)

-- the triggers with these zones at one of them, which isn't in the trie without zones
abbrev pub put_zones : {K : Type 0} → (K → K → Ordering) → K → ℕ → List (K × Standing) → List (K × Standing)
put_zones order key zones triggers =
    if zones == 0 then remove_entry (is_at (order key)) triggers
    else insert_entry order triggers key (record { value = zones; mark = true })

-- the zone has a rule whose trigger fits; or it may have one, where the kind isn't listed
abbrev pub may_fit : {K : Type 0} → (K → Bool) → PlainSummary K → ℕ → Bool
may_fit fits s number =
    if s.is_listed then list_any (λ e. fits e.0 && has_zone e.1.value number) s.triggers
    else has_zone s.having number
