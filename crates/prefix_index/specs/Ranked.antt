-- The entries of two tries, of version 4 and of version 6, as one list in order of precedence.
use Rattle.std.specs.List.{AllByRecursion}
use Rattle.std.specs.Prelude.{ℕ, ◌≤◌, List, [], ◌∷◌, ◌++◌, map, Option, Some, None}
use Rattle.std.specs.BTreeMap.{insert_entry}
use Rattle.ip_prefix.specs.declared.Addr.{Addr}
use Rattle.ip_prefix.specs.declared.Addr.TheVariants.{V4, V6}
use Rattle.ip_prefix.specs.Prefix.{PlainPrefix, prefix_order}
use Rattle.prefix_index.specs.Bits.{PlainBits}

abbrev pub prefix_four : PlainBits → PlainPrefix
prefix_four bits = record { addr = V4 bits.number; length = bits.len }

abbrev pub prefix_six : PlainBits → PlainPrefix
prefix_six bits = record { addr = V6 bits.number; length = bits.len }

abbrev pub prefixes : {V : Type 0} → List (PlainBits × V) → List (PlainBits × V) → List (PlainPrefix × V)
prefixes four six = map (λ e. (prefix_four e.0, e.1)) four ++ map (λ e. (prefix_six e.0, e.1)) six

-- in order of precedence
abbrev pub ranked : {V : Type 0} → List (PlainPrefix × V) → List (PlainPrefix × V)
ranked [] = []
ranked (e ∷ es) = insert_entry prefix_order (ranked es) e.0 e.1

abbrev pub ranked_prefixes : {V : Type 0} → List (PlainBits × V) → List (PlainBits × V) → List (PlainPrefix × V)
ranked_prefixes four six = ranked (prefixes four six)

-- the entries put into others, one after the other, a later one of a prefix in place of an earlier one
abbrev pub with_all : {V : Type 0} → List (PlainPrefix × V) → List (PlainPrefix × V) → List (PlainPrefix × V)
with_all entries [] = entries
with_all entries (e ∷ es) = with_all (insert_entry prefix_order entries e.0 e.1) es

abbrev pub bits_in_four : Addr → ℕ → Option PlainBits
bits_in_four (V4 number) len = Some (record { number = number; len = len })
bits_in_four (V6 number) len = None

abbrev pub bits_in_six : Addr → ℕ → Option PlainBits
bits_in_six (V4 number) len = None
bits_in_six (V6 number) len = Some (record { number = number; len = len })

-- the bits of a prefix, if it is of version 4
abbrev pub four_bits : PlainPrefix → Option PlainBits
four_bits p = bits_in_four p.addr p.length

-- the bits of a prefix, if it is of version 6
abbrev pub six_bits : PlainPrefix → Option PlainBits
six_bits p = bits_in_six p.addr p.length

-- each key has some bits
abbrev pub AreSome : {V : Type 0} → List (PlainBits × V) → Type 0
AreSome es = AllByRecursion (λ e. 1 ≤ e.0.len) es
