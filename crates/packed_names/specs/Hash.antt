-- The hash of a suffix. It makes look-ups fast, and changes no answer.
use Rattle.std.specs.Prelude.{ℕ, zero, suc, ◌+◌, ◌-◌, ◌*◌, ◌/◌, ◌%◌, ◌^◌, List, [], ◌∷◌, length, slice_index, bit_xor}
use Rattle.std.specs.Int.{w64, from_le_bytes, rotate_left}

-- the halves of a product of 128 bits, combined
abbrev pub folded_product : ℕ → ℕ → ℕ
folded_product a b = bit_xor (a * b / 2 ^ 64) (a * b % 2 ^ 64)

-- the eight octets from an index on as a number, with zeros behind the last
abbrev pub word_at : List ℕ → ℕ → ℕ
word_at octets at =
    from_le_bytes w64
    (slice_index octets at
    ∷ slice_index octets (at + 1)
    ∷ slice_index octets (at + 2)
    ∷ slice_index octets (at + 3)
    ∷ slice_index octets (at + 4)
    ∷ slice_index octets (at + 5)
    ∷ slice_index octets (at + 6)
    ∷ slice_index octets (at + 7)
    ∷ [])

-- what comes of so many pairs of words
unfoldable pub pairs_hash : ℕ → List ℕ → ℕ → ℕ
pairs_hash key octets zero = bit_xor (rotate_left w64 key 32) (length octets)
pairs_hash key octets (suc count) =
    folded_product
    (bit_xor (word_at octets (16 * count)) key)
    (bit_xor (word_at octets (16 * count + 8)) (pairs_hash key octets count))

-- the 32 highest bits of what comes of all whole pairs of words, and then of the two last words
unfoldable pub hash_of : ℕ → List ℕ → ℕ
hash_of key octets =
    folded_product
    (bit_xor (word_at octets (length octets - 16)) key)
    (bit_xor (word_at octets (length octets - 8)) (pairs_hash key octets (length octets / 16)))
    / 2 ^ 32

-- the bucket of a hash: its 11 highest bits of 32
abbrev pub bucket : ℕ → ℕ
bucket hash = hash / 2 ^ 21
