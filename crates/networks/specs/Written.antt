-- Addresses as text: of version 4 four decimals, and of version 6 the form of RFC 5952.
use Rattle.std.specs.Prelude.{ℕ, ◌/◌, ◌%◌, zero, suc, List, [], ◌∷◌, ◌++◌}
use Rattle.std.specs.Net.Text.{ipv4_text, ipv6_text}
use Rattle.ip_prefix.specs.declared.Addr.{Addr}
use Rattle.ip_prefix.specs.declared.Addr.TheVariants.{V4, V6}

-- the last digits of a number to a base, so many, the highest first
abbrev pub last_digits : ℕ → ℕ → ℕ → List ℕ
last_digits base zero number = []
last_digits base (suc count) number = last_digits base count (number / base) ++ number % base ∷ []

-- the four octets of an address of version 4
abbrev pub four_octets : ℕ → List ℕ
four_octets number = last_digits 256 4 number

-- the eight groups of an address of version 6
abbrev pub eight_groups : ℕ → List ℕ
eight_groups number = last_digits 65536 8 number

-- The text of an address. That of version 6 is the library's: groups in lower case without leading zeros, `::` for the longest run of
-- two groups of zeros or more, the first of equal ones, and the last 32 bits of a mapped address as four decimals (RFC 5952,
-- sections 4 and 5).
abbrev pub addr_text : Addr → List ℕ
addr_text (V4 number) = ipv4_text (four_octets number)
addr_text (V6 number) = ipv6_text (eight_groups number)
