-- Rows without repeats.
use Rattle.std.specs.Prelude.{◌≡◌, ℕ, Bool, if◌then◌else◌, List, [], ◌∷◌, ◌++◌, fold}
use Rattle.std.specs.List.{list_any}
use Rattle.std.specs.Str.{bytes_eq}
use Rattle.zone_rows.specs.KeySet.{has_key}
use Rattle.dns_record.specs.Row.{PlainRow, identity}

-- a row of the same owner, type and data is among the rows
abbrev pub has_row : List PlainRow → PlainRow → Bool
has_row rows row = list_any (λ other. bytes_eq (identity row) (identity other)) rows

-- a row behind the others, unless it is among them
abbrev pub with_row : List PlainRow → PlainRow → List PlainRow
with_row rows row = if has_row rows row then rows else rows ++ row ∷ []

-- rows without repeats: the first of each identity is kept
unfoldable pub without_repeats : List PlainRow → List PlainRow
without_repeats rows = fold with_row [] rows

-- the keys are the identities of the rows
abbrev pub AreKeysOf : List (List ℕ) → List PlainRow → Type 0
AreKeysOf keys rows =
    (key : List ℕ) → has_key keys key ≡ list_any (λ row. bytes_eq key (identity row)) rows
