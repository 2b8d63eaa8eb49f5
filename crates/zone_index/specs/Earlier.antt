-- Which of two entries of a map comes first.
use Rattle.std.specs.Prelude.{if◌then◌else◌, Option, Some, None}
use Rattle.std.specs.Ordering.{is_lt}
use Rattle.std.specs.declared.cmp.Ordering.{Ordering}

abbrev pub earlier_of : {K V : Type 0} → (K → K → Ordering) → Option (K × V) → Option (K × V) →
    Option (K × V)
earlier_of order None other = other
earlier_of order (Some first) None = Some first
earlier_of order (Some first) (Some other) =
    if is_lt (order first.0 other.0) then Some first else Some other

-- the same of keys
abbrev pub earlier_key : {K : Type 0} → (K → K → Ordering) → Option K → Option K → Option K
earlier_key order None other = other
earlier_key order (Some first) None = Some first
earlier_key order (Some first) (Some other) =
    if is_lt (order first other) then Some first else Some other
