-- Texts of addresses of IP version 4: four octets in decimal, joined by dots (RFC 3986, section 3.2.2).
use Rattle.std.specs.Prelude.{ℕ, ◌+◌, ◌*◌, ◌==◌, ◌&&◌, Bool, true, false, if◌then◌else◌, nat_lt, List, length, slice_index, Option, Some, None}
use Rattle.std.specs.List.{before_first, after_first}
use Rattle.networks.specs.Decimal.{decimal_of}
use Rattle.networks.specs.Optional.{◌>>=◌}

-- `.`, which stands between octets
abbrev pub is_octet_dot : ℕ → Bool
is_octet_dot b = b == 46

-- more digits than one, of which the first is a zero
abbrev pub has_leading_zero : List ℕ → Bool
has_leading_zero digits = nat_lt 1 (length digits) && slice_index digits 0 == 48

-- an octet: 1 to 3 decimal digits, at most 255, and where it is strict no leading zero
abbrev pub octet_of : Bool → List ℕ → Option ℕ
octet_of strict digits = if strict && has_leading_zero digits then None else decimal_of 3 256 digits

-- four octets joined by dots, the first of them highest
unfoldable pub dotted_of : Bool → List ℕ → Option ℕ
dotted_of strict text = do
  first ← octet_of strict (before_first is_octet_dot text)
  let rest = after_first is_octet_dot text
  second ← octet_of strict (before_first is_octet_dot rest)
  let rest = after_first is_octet_dot rest
  third ← octet_of strict (before_first is_octet_dot rest)
  fourth ← octet_of strict (after_first is_octet_dot rest)
  Some (((first * 256 + second) * 256 + third) * 256 + fourth)

-- an address of IP version 4; leading zeros are allowed, and the octets are decimal all the same
abbrev pub v4_number : List ℕ → Option ℕ
v4_number text = dotted_of false text

-- the last 32 bits of an address of IP version 6 (RFC 4291, section 2.2), without leading zeros (RFC 6943, section 3.1.1)
abbrev pub tail_of : List ℕ → Option ℕ
tail_of text = dotted_of true text
