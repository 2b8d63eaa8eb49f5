-- What the laws of the rows of a rule say.
use Rattle.std.specs.Prelude.{◌≡◌, ◌↔◌, false, List, Contains}
use Rattle.std.specs.Cmp.Lexicographic.{slice_cmp}
use Rattle.std.specs.Ordering.{nat_cmp, is_gt}
use Rattle.std.specs.declared.cmp.Ordering.{Ordering}
use Rattle.dns_name.specs.Order.{canonical_order}
use Rattle.dns_record.specs.Row.{PlainRow, AreAlike}
use Rattle.action_codec.specs.Local.{data_key}

-- by type, then data
abbrev pub data_order : PlainRow → PlainRow → Ordering
data_order row other = slice_cmp nat_cmp (data_key row) (data_key other)

-- `kept` has the type and the data of the row, and its owner comes no later
pub record IsKeptFor (kept row : PlainRow) : Type 0 where
  pub same : data_key kept ≡ data_key row
  pub owner : is_gt (canonical_order kept.owner row.owner) ≡ false

-- Of the rows with the data of this one, one is kept.
pub record HasOneFor (rows : List PlainRow) (row : PlainRow) : Type 0 where
  pub kept : PlainRow
  pub contained : Contains rows kept
  pub is_kept : IsKeptFor kept row

-- rows of one owner, type and data have one TTL
abbrev pub HaveOneTtl : List PlainRow → Type 0
HaveOneTtl rows =
    (row other : PlainRow) → Contains rows row → Contains rows other → AreAlike row other →
    row.ttl ≡ other.ttl

-- each row of one list is in the other
abbrev pub HaveSameRows : List PlainRow → List PlainRow → Type 0
HaveSameRows rows other = (row : PlainRow) → Contains rows row ↔ Contains other row
