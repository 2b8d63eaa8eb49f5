-- For what the values of tries stand.
use Rattle.std.specs.Prelude.{◌≡◌, ℕ, ◌<◌, true, List, [], ◌∷◌, ◌++◌, length, map, Option, Some, None}
use Rattle.std.specs.List.{AllByRecursion, slice_get}
use Rattle.trie_keys.specs.declared.marked.Marked.{Marked}
use Rattle.zone_index.specs.Does.{acts}
use Rattle.zone_index.specs.Entry.{PlainEntry}
use Rattle.zone_index.specs.Kept.{is_kept, kept_acts}
use Rattle.zone_index.specs.Places.{PlacesOf, PlainPlaces}
use Rattle.zone_index.specs.declared.does.Does.{Does}
use Rattle.zone_index.specs.declared.does.Does.TheVariants as actions
use Rattle.zone_index.specs.declared.group.Group.{Group}
use Rattle.zone_index.specs.declared.kept.Kept.{Kept}
use Rattle.zone_index.specs.declared.kept.Kept.TheVariants as marks

abbrev pub entry_of : Group → PlainEntry
entry_of group = record { numbers = group.numbers.items; does = group.does }

abbrev pub group_entry : Option Group → PlainEntry
group_entry None = record { numbers = []; does = actions.Nothing }
group_entry (Some group) = entry_of group

abbrev pub marked_entry : List Group → ℕ → Kept → PlainEntry
marked_entry groups number marks.Absent = record { numbers = number ∷ []; does = actions.Nothing }
marked_entry groups number marks.Nothing = record { numbers = number ∷ []; does = actions.Nothing }
marked_entry groups number marks.NxDomain = record { numbers = number ∷ []; does = actions.NxDomain }
marked_entry groups number marks.NoData = record { numbers = number ∷ []; does = actions.NoData }
marked_entry groups number marks.PassThru = record { numbers = number ∷ []; does = actions.PassThru }
marked_entry groups number marks.Drop = record { numbers = number ∷ []; does = actions.Drop }
marked_entry groups number marks.TcpOnly = record { numbers = number ∷ []; does = actions.TcpOnly }
marked_entry groups number marks.Row = record { numbers = number ∷ []; does = actions.Row }
marked_entry groups number marks.Group = group_entry (slice_get groups number)
marked_entry groups number marks.IdleGroup = group_entry (slice_get groups number)

-- for what a value stands
abbrev pub entry_in : List Group → Marked ℕ Kept → PlainEntry
entry_in groups value = marked_entry groups value.value value.mark

abbrev pub IsThereAt : List Group → ℕ → Kept → Type 0
IsThereAt groups number marks.Absent = Unit {0}
IsThereAt groups number marks.Nothing = Unit {0}
IsThereAt groups number marks.NxDomain = Unit {0}
IsThereAt groups number marks.NoData = Unit {0}
IsThereAt groups number marks.PassThru = Unit {0}
IsThereAt groups number marks.Drop = Unit {0}
IsThereAt groups number marks.TcpOnly = Unit {0}
IsThereAt groups number marks.Row = Unit {0}
IsThereAt groups number marks.Group = number < length groups
IsThereAt groups number marks.IdleGroup = number < length groups

-- the value's group is there, if it names one
abbrev pub IsThere : List Group → Marked ℕ Kept → Type 0
IsThere groups value = IsThereAt groups value.value value.mark

-- the value's group is there, and its mark says whether the rows do something
pub record IsWell (groups : List Group) (value : Marked ℕ Kept) : Type 0 where
  pub there : IsThere groups value
  pub acts_so : kept_acts value.mark ≡ acts (entry_in groups value).does

abbrev pub AreWell : {K : Type 0} → List Group → List (K × Marked ℕ Kept) → Type 0
AreWell groups entries = AllByRecursion (λ e. IsWell groups e.1) entries

-- the value stands for these rows, and groups came behind those that there were
pub record IsKeptAs (old new : List Group) (numbers : List ℕ) (does : Does) (value : Marked ℕ Kept) : Type 0 where
  pub more : List Group
  pub groups : new ≡ old ++ more
  pub present : is_kept value.mark ≡ true
  pub well : IsWell new value
  pub entry : entry_in new value ≡ record { numbers = numbers; does = does }

-- each entry with that for which its value stands
abbrev pub entries_in : {K : Type 0} → List Group → List (K × Marked ℕ Kept) → List (K × PlainEntry)
entries_in groups entries = map (λ e. (e.0, entry_in groups e.1)) entries

abbrev pub places_in : List Group → PlacesOf (Marked ℕ Kept) → PlainPlaces
places_in groups places = record {
  rules = record {
    client_ip = entries_in groups places.rules.client_ip;
    qname = entries_in groups places.rules.qname;
    response_ip = entries_in groups places.rules.response_ip;
    nsdname = entries_in groups places.rules.nsdname;
    nsip = entries_in groups places.rules.nsip;
  };
  other = entries_in groups places.other;
}

-- the values at all places are well
pub record AreAllWell (groups : List Group) (places : PlacesOf (Marked ℕ Kept)) : Type 0 where
  pub client_ip : AreWell groups places.rules.client_ip
  pub qname : AreWell groups places.rules.qname
  pub response_ip : AreWell groups places.rules.response_ip
  pub nsdname : AreWell groups places.rules.nsdname
  pub nsip : AreWell groups places.rules.nsip
  pub other : AreWell groups places.other
