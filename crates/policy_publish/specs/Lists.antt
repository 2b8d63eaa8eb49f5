-- What contracts see of a publisher and of a reader.
use Rattle.std.specs.Prelude.{◌≡◌, Bool, [], List}
use mathlib.Core.List.{IsPrefix}
use Rattle.policy_snapshot.specs.declared.entry.Entry.{Entry}
use Rattle.policy_snapshot.specs.Stands.{PlainSnapshot}

-- The list of what was published, the version that readers take, and which zones are marked. Of a marked zone all is asked for
-- next.
pub record Published : Type 0 where
  pub list : List Entry
  pub version : PlainSnapshot
  pub marks : List Bool

-- the list that a reader saw last, and the longest list that it was told
pub record Known : Type 0 where
  pub seen : List Entry
  pub told : List Entry

-- it has seen nothing, and was told nothing
abbrev pub IsNew : Known → Type 0
IsNew known = (known.seen ≡ []) × (known.told ≡ [])

-- the reader was told this list, or a longer one that begins with it
abbrev pub WasTold : Known → List Entry → Type 0
WasTold known list = IsPrefix list known.told

-- what the reader was told before, it was told afterwards, too
abbrev pub KeepsTold : Known → Known → Type 0
KeepsTold old new = (list : List Entry) → WasTold old list → WasTold new list

-- the list begins with the one that was seen, and with each that was told
abbrev pub GoesOn : Known → List Entry → Type 0
GoesOn known list =
    IsPrefix known.seen list × ((told : List Entry) → WasTold known told → IsPrefix told list)
