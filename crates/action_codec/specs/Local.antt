-- The rows of one rule: in order of type, then data, each of these once.
use Rattle.std.specs.Prelude.{◌≡◌, ℕ, List, [], ◌∷◌, ◌++◌, fold, if◌then◌else◌, Option, Some, None}
use Rattle.std.specs.Cmp.Lexicographic.{slice_cmp}
use Rattle.std.specs.Ordering.{nat_cmp, is_lt, match_ordering}
use Rattle.dns_name.specs.Order.{canonical_order}
use Rattle.dns_record.specs.Number.{number_octets}
use Rattle.dns_record.specs.Row.{PlainRow}

-- a row that is answered with; its owner is the name that is answered for
pub record PlainLocal : Type 0 where
  pub rtype : ℕ
  pub ttl : ℕ
  pub rdata : List ℕ

-- the row without its owner
abbrev pub local_row : PlainRow → PlainLocal
local_row row = record { rtype = row.rtype; ttl = row.ttl; rdata = row.rdata }

-- the type and the data as they are written: their order as bytes is that of types, then data
unfoldable pub data_key : PlainRow → List ℕ
data_key row = number_octets 2 row.rtype ++ row.rdata

-- the row whose owner comes first (RFC 4034, section 6.1)
abbrev pub first_owned : PlainRow → PlainRow → PlainRow
first_owned row other = if is_lt (canonical_order row.owner other.owner) then row else other

-- the row to keep where another of the same type and data may be there
abbrev pub row_to_keep : PlainRow → Option PlainRow → PlainRow
row_to_keep row None = row
row_to_keep row (Some other) = first_owned row other

-- The row at its place. Of two of the same type and data the one whose owner comes first is kept.
abbrev pub insert_row : PlainRow → List PlainRow → List PlainRow
insert_row row [] = row ∷ []
insert_row row (other ∷ rows) =
    match_ordering (slice_cmp nat_cmp (data_key row) (data_key other)) (row ∷ other ∷ rows)
    (first_owned row other ∷ rows) (other ∷ insert_row row rows)

-- the rows of a rule in their order
abbrev pub rule_rows : List PlainRow → List PlainRow
rule_rows rows = fold (λ kept row. insert_row row kept) [] rows

-- a row stands by its type and data
abbrev pub IsKeyed : List ℕ → PlainRow → Type 0
IsKeyed key row = key ≡ data_key row
