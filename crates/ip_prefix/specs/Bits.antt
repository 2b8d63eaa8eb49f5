-- What a prefix is, bit by bit (RFC 4632, section 3.1; RFC 4291, section 2.3). The bit that is sent first has
-- the place 0.
use Rattle.std.specs.Prelude.{ℕ, ◌≡◌, ◌<◌, ◌≤◌, ◌^◌, false, IsTrue}
use Rattle.ip_prefix.specs.declared.Addr.{Addr}
use Rattle.ip_prefix.specs.Prefix.{PlainPrefix, family, width, number_of, bit_of}

-- the number of an address has no more bits than the address
abbrev pub IsAddr : Addr → Type 0
IsAddr addr = number_of addr < 2 ^ width addr

-- two addresses are of one family, and their first `length` bits are the same
pub record BeginAlike (length : ℕ) (addr other : Addr) : Type 0 where
  pub same_family : family addr ≡ family other
  pub same_bits : (place : ℕ) → place < length → bit_of addr place ≡ bit_of other place

-- some bit after the first `length` bits is 1
pub record HasBitBehind (length : ℕ) (addr : Addr) : Type 0 where
  pub place : ℕ
  pub behind : length ≤ place
  pub within : place < width addr
  pub is_set : IsTrue (bit_of addr place)

-- each bit after the first `length` bits is 0
abbrev pub IsZeroBehind : ℕ → Addr → Type 0
IsZeroBehind length addr =
    (place : ℕ) → length ≤ place → place < width addr → bit_of addr place ≡ false

-- a prefix is this address and this length, which is in its bounds, and no bit after the length is 1
pub record IsPrefixOf (addr : Addr) (length : ℕ) (prefix : PlainPrefix) : Type 0 where
  pub some : 1 ≤ length
  pub within : length ≤ width addr
  pub zeros : IsZeroBehind length addr
  pub is_pair : prefix ≡ record { addr = addr; length = length }
