-- Strings of bits, as the number whose first bits they are, and how many they are.
use Rattle.std.specs.Prelude.{ℕ, ◌-◌, ◌/◌, ◌%◌, ◌^◌, ◌==◌, Bool, not, ◌&&◌, nat_lt}
use Rattle.std.specs.Ordering.{nat_cmp, ordering_then}
use Rattle.std.specs.declared.cmp.Ordering.{Ordering}
use Rattle.trie_keys.specs.Keys.{Keys}

-- the first bits, so many, of a number of some width
pub record PlainBits : Type 0 where
  pub number : ℕ
  pub len : ℕ

abbrev pub bits_order : PlainBits → PlainBits → Ordering
bits_order a b = ordering_then (nat_cmp a.number b.number) (nat_cmp a.len b.len)

-- the numbers have the same first bits, so many
abbrev pub bits_agree : ℕ → ℕ → PlainBits → PlainBits → Bool
bits_agree width n a b = a.number / 2 ^ (width - n) == b.number / 2 ^ (width - n)

abbrev pub bit_at_place : ℕ → PlainBits → ℕ → ℕ
bit_at_place width a place = a.number / 2 ^ (width - 1 - place) % 2

-- there are at most as many as the width, and the number has no others
abbrev pub bits_valid : ℕ → PlainBits → Bool
bits_valid width a = a.number % 2 ^ (width - a.len) == 0 && not (nat_lt width a.len)

abbrev pub bits_keys : ℕ → Keys PlainBits
bits_keys width = record {
  order = bits_order;
  len = λ a. a.len;
  agree = bits_agree width;
  symbol = bit_at_place width;
  valid = bits_valid width;
  width = width;
}
