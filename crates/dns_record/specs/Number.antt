-- Numbers in messages: the highest byte first (RFC 1035, section 2.3.2).
use Rattle.std.specs.Prelude.{ℕ, ◌<◌, List, drop, slice_index}
use Rattle.byteorder.specs.Endian.{big_number, big_bytes}

-- the number in so many octets of a message, from a place on
unfoldable pub number_at : ℕ → List ℕ → ℕ → ℕ
number_at count message at = big_number count (drop at message)

-- a number in so many octets, as it is written
unfoldable pub number_octets : ℕ → ℕ → List ℕ
number_octets count number = big_bytes count number

-- every number of the list is an octet's
abbrev pub AreOctets : List ℕ → Type 0
AreOctets bytes = (k : ℕ) → slice_index bytes k < 256
