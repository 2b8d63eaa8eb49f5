-- Rows of which no two have one identity.
use Rattle.std.specs.Prelude.{◌≡◌, ◌≢◌, ◌<◌, ℕ, List, length, AllPairs, IfSome}
use Rattle.std.specs.List.{slice_index_or}
use Rattle.zone_rows.specs.declared.transfer.Transfer.{Transfer}
use Rattle.zone_rows.specs.declared.transfer.Transfer.TheVariants.{Whole, Steps}
use Rattle.zone_rows.specs.declared.zone.PlainZone.{PlainZone}
use Rattle.dns_record.specs.Row.{PlainRow, identity}

-- no two rows have one identity
abbrev pub AreDistinct : List PlainRow → Type 0
AreDistinct rows = AllPairs (λ row other. identity row ≢ identity other) rows

-- the row stands among the rows, and no row before it has its identity
pub record IsFirst (rows : List PlainRow) (row : PlainRow) : Type 0 where
  pub place : ℕ
  pub within : place < length rows
  pub is_row : slice_index_or rows place row ≡ row
  pub is_new : (earlier : ℕ) → earlier < place →
      identity (slice_index_or rows earlier row) ≢ identity row

-- the row stands among the rows, and the other behind it
pub record Precedes (rows : List PlainRow) (row other : PlainRow) : Type 0 where
  pub place : ℕ
  pub later : ℕ
  pub in_order : place < later
  pub within : later < length rows
  pub is_row : slice_index_or rows place row ≡ row
  pub is_other : slice_index_or rows later other ≡ other

-- no two rows of the zone, if it is loaded, have one identity
abbrev pub HasDistinctRows : PlainZone → Type 0
HasDistinctRows zone = IfSome zone.content (λ content. AreDistinct content.rows)

-- What makes a zone's rows distinct after a transfer: nothing if it is whole, distinct rows before if it has steps.
abbrev pub BeginsDistinct : PlainZone → Transfer → Type 0
BeginsDistinct zone (Whole soa rows) = Unit {0}
BeginsDistinct zone (Steps steps) = HasDistinctRows zone
