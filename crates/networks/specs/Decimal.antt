-- Numbers in decimal.
use Rattle.std.specs.Prelude.{ℕ, ◌+◌, ◌*◌, ◌-◌, ◌&&◌, Bool, if◌then◌else◌, nat_lt, nat_le, List, length, fold, Option, Some, None}
use Rattle.std.specs.Char.{is_ascii_digit}
use Rattle.std.specs.List.{list_all}

-- the number that decimal digits write
abbrev pub value_of : List ℕ → ℕ
value_of digits = fold (λ value b. value * 10 + (b - 48)) 0 digits

-- 1 to `most` decimal digits, of a number below the bound
abbrev pub is_number : ℕ → ℕ → List ℕ → Bool
is_number most bound digits =
    nat_lt 0 (length digits) && nat_le (length digits) most && list_all is_ascii_digit digits
    && nat_lt (value_of digits) bound

-- the number that 1 to `most` decimal digits write, where it is below the bound; leading zeros are allowed
abbrev pub decimal_of : ℕ → ℕ → List ℕ → Option ℕ
decimal_of most bound digits = if is_number most bound digits then Some (value_of digits) else None
