-- Where the rows of a zone stand in its index, and what stands there.
use Rattle.std.specs.Prelude.{◌≡◌, ℕ, ◌&&◌, Bool, false, not, eqb, if◌then◌else◌, List, [], ◌∷◌, map, filter, All, Option, Some, None}
use Rattle.std.specs.BTreeMap.{is_at}
use Rattle.std.specs.List.{find}
use Rattle.std.specs.Option.{option_map}
use Rattle.std.specs.Str.{bytes_eq}
use Rattle.dns_name.specs.Labels.{Name}
use Rattle.dns_record.specs.Row.{PlainRow, identity}
use Rattle.qname_index.specs.Best.{pattern_order}
use Rattle.packed_lists.specs.Stored.{PlainStored, row_of_number}
use Rattle.trigger_codec.specs.Bases.{IsPattern, IsTrigger}
use Rattle.trigger_codec.specs.Decode.{trigger}
use Rattle.trigger_codec.specs.declared.trigger.Trigger.{Trigger}
use Rattle.action_codec.specs.Action.{action_by, is_cname, is_live_type, points_to}
use Rattle.action_codec.specs.Local.{local_row}
use Rattle.action_codec.specs.declared.action.Action.{Action}
use Rattle.action_codec.specs.declared.action.Action.TheVariants as actions
use Rattle.zone_index.specs.Entry.{PlainEntry}
use Rattle.zone_index.specs.Places.{PlainPlaces, entry_at, with_entry, without_entry}
use Rattle.zone_index.specs.declared.does.Does.{Does}
use Rattle.zone_index.specs.declared.does.Does.TheVariants.{Nothing, NxDomain, NoData, PassThru, Drop, TcpOnly, Row, Rows}
use Rattle.zone_index.specs.declared.place.Place.{Place}
use Rattle.zone_index.specs.declared.place.Place.TheVariants.{Rule, Other}
use Rattle.zone_rows.specs.Distinct.{AreDistinct}
use Rattle.zone_rows.specs.Stored.{IsStored, plain_row}
use Rattle.zone_index.specs.Kinds.{PlainRules}
use Rattle.zone_index.specs.Listed.{is_same}
use Rattle.zone_index.specs.Rules.{live_trigger, rules_of, some_trigger}

abbrev pub place_by : Name → Option Trigger → Place
place_by owner None = Other (record { base = owner; wild = false })
place_by owner (Some t) = Rule t

-- where a row stands: at its trigger if it is live, else with the other rows of its owner
abbrev pub row_place : Name → PlainRow → Place
row_place origin row = place_by row.owner (live_trigger origin row)

-- the places are of one kind, and neither comes before the other
abbrev pub is_same_place : Place → Place → Bool
is_same_place (Rule t) (Rule u) = is_same t u
is_same_place (Other p) (Other q) = is_at (pattern_order p) q
is_same_place p q = false

-- where a row of this owner and type stands
abbrev pub owner_place : Name → Name → ℕ → Place
owner_place origin owner rtype = place_by owner (if is_live_type rtype then some_trigger (trigger owner origin) else None)

-- the row is a CNAME to the root
abbrev pub is_root_row : PlainStored → Bool
is_root_row s = is_cname (plain_row s) && points_to s.rdata []

-- the rows of a place, with their numbers
abbrev pub stored_at : Name → List PlainStored → Place → List PlainStored
stored_at origin rows place = filter (λ s. is_same_place place (row_place origin (plain_row s))) rows

-- what the rows of a place do
abbrev pub place_action : Place → List PlainRow → Option Action
place_action (Rule t) rows = action_by t rows
place_action (Other pattern) rows = None

-- what an index keeps of what one row does
abbrev pub one_does : Option Action → Does
one_does None = Nothing
one_does (Some actions.NxDomain) = NxDomain
one_does (Some actions.NoData) = NoData
one_does (Some actions.PassThru) = PassThru
one_does (Some actions.Drop) = Drop
one_does (Some actions.TcpOnly) = TcpOnly
one_does (Some (actions.Local rows)) = Row

-- and of what several do
abbrev pub several_do : Option Action → Does
several_do None = Nothing
several_do (Some actions.NxDomain) = NxDomain
several_do (Some actions.NoData) = NoData
several_do (Some actions.PassThru) = PassThru
several_do (Some actions.Drop) = Drop
several_do (Some actions.TcpOnly) = TcpOnly
several_do (Some (actions.Local rows)) = Rows rows

abbrev pub does_for : Place → List PlainStored → Does
does_for place [] = Nothing
does_for place (s ∷ []) = one_does (place_action place (plain_row s ∷ []))
does_for place (s ∷ other ∷ ss) = several_do (place_action place (map plain_row (s ∷ other ∷ ss)))

-- what stands at a place that has these rows: their numbers, and what they do
abbrev pub entry_for : Place → List PlainStored → Option PlainEntry
entry_for place [] = None
entry_for place (s ∷ ss) = Some (record { numbers = map (λ r. r.number) (s ∷ ss); does = does_for place (s ∷ ss) })

-- the pattern of the place, if it has one, is of a name in lower case
abbrev pub IsPlace : Place → Type 0
IsPlace (Rule t) = IsTrigger t
IsPlace (Other pattern) = IsPattern pattern

-- at each place stand the numbers of its rows, and what they do
abbrev pub IsIndexOf : Name → List PlainStored → PlainPlaces → Type 0
IsIndexOf origin rows places =
    (place : Place) → IsPlace place → entry_at places place ≡ entry_for place (stored_at origin rows place)

-- the rows of these numbers
abbrev pub with_found : Option PlainStored → List PlainStored → List PlainStored
with_found None rows = rows
with_found (Some s) rows = s ∷ rows

abbrev pub rows_by : List ℕ → List PlainStored → List PlainStored
rows_by [] rows = []
rows_by (number ∷ numbers) rows = with_found (row_of_number number rows) (rows_by numbers rows)

-- whether a row, if there is one, has the identity
abbrev pub has_identity : List ℕ → Option PlainStored → Bool
has_identity key None = false
has_identity key (Some s) = bytes_eq key (identity (plain_row s))

-- the first of the numbers whose row has the identity
abbrev pub number_among : List ℕ → List PlainStored → List ℕ → Option ℕ
number_among key rows numbers = find (λ n. has_identity key (row_of_number n rows)) numbers

-- the entry at the place, or none
abbrev pub put_at : PlainPlaces → Place → Option PlainEntry → PlainPlaces
put_at places place None = without_entry places place
put_at places place (Some entry) = with_entry places place entry

-- the numbers without one
abbrev pub other_numbers : ℕ → List ℕ → List ℕ
other_numbers number numbers = filter (λ n. not (eqb n number)) numbers

-- the numbers at a place
abbrev pub numbers_of : Option PlainEntry → List ℕ
numbers_of None = []
numbers_of (Some entry) = entry.numbers

-- what a row does that is alone: it is the answer
abbrev pub answer_of : Option PlainStored → Option Action
answer_of None = None
answer_of (Some s) = Some (actions.Local (local_row (plain_row s) ∷ []))

abbrev pub alone_does : List ℕ → List PlainStored → Option Action
alone_does [] rows = None
alone_does (number ∷ numbers) rows = answer_of (row_of_number number rows)

-- what the rows of these numbers do
abbrev pub action_in : List PlainStored → List ℕ → Does → Option Action
action_in rows numbers Nothing = None
action_in rows numbers NxDomain = Some actions.NxDomain
action_in rows numbers NoData = Some actions.NoData
action_in rows numbers PassThru = Some actions.PassThru
action_in rows numbers Drop = Some actions.Drop
action_in rows numbers TcpOnly = Some actions.TcpOnly
action_in rows numbers Row = alone_does numbers rows
action_in rows numbers (Rows local) = Some (actions.Local local)

abbrev pub entry_action : List PlainStored → PlainEntry → Option Action
entry_action rows entry = action_in rows entry.numbers entry.does

-- an entry that was found, if its rows do something
abbrev pub entry_shown : {K : Type 0} → List PlainStored → Option (K × PlainEntry) → Option (K × Action)
entry_shown rows None = None
entry_shown rows (Some e) = option_map (λ a. (e.0, a)) (entry_action rows e.1)

-- the entry of a key, where its rows do something
abbrev pub with_action : {K : Type 0} → K → Option Action → List (K × Action) → List (K × Action)
with_action key None rest = rest
with_action key (Some action) rest = (key, action) ∷ rest

-- the entries whose rows do something, with what they do
abbrev pub acting : {K : Type 0} → List PlainStored → List (K × PlainEntry) → List (K × Action)
acting rows [] = []
acting rows (e ∷ es) = with_action e.0 (entry_action rows e.1) (acting rows es)

-- the rules that the entries stand for
abbrev pub rules_shown : List PlainStored → PlainPlaces → PlainRules
rules_shown rows places = record {
  client_ip = acting rows places.rules.client_ip;
  qname = acting rows places.rules.qname;
  response_ip = acting rows places.rules.response_ip;
  nsdname = acting rows places.rules.nsdname;
  nsip = acting rows places.rules.nsip;
}

-- the rows of a zone of this origin, with what stands at each place of it; no two have one identity
pub record IsIndexed (origin : Name) (rows : List PlainStored) (places : PlainPlaces) : Type 0 where
  pub stored : All IsStored rows
  pub distinct : AreDistinct (map plain_row rows)
  pub index : IsIndexOf origin rows places

-- the rows of a zone, and its origin
pub record PlainIndexed : Type 0 where
  pub origin : Name
  pub rows : List PlainRow

-- its rules
abbrev pub rules_in : PlainIndexed → PlainRules
rules_in indexed = rules_of indexed.origin indexed.rows
