-- The hash of a suffix.
use Rattle.std.proofs.Common.{◌≡◌, ℕ, add-one, ◌+◌, ◌-◌, ◌*◌, ◌/◌, ◌^◌, bit_xor, List, length, sym, ap, ◌∙◌}
use Rattle.packed_names.specs.Hash.{folded_product, word_at, pairs_hash, hash_of}

-- two words more
folded : (key hash first second first' second' hash' : ℕ) → first ≡ first' → second ≡ second' → hash ≡ hash' → folded_product (bit_xor first key) (bit_xor second hash) ≡ folded_product (bit_xor first' key) (bit_xor second' hash')
folded key hash first second first' second' hash' f s h =
    ap (λ (n : ℕ). folded_product (bit_xor n key) (bit_xor second hash)) f
    ∙ ap (λ (n : ℕ). folded_product (bit_xor first' key) (bit_xor n hash)) s
    ∙ ap (λ (n : ℕ). folded_product (bit_xor first' key) (bit_xor second' n)) h

pub pairs_more : (key : ℕ) (octets : List ℕ) (count hash first second product : ℕ) → hash ≡ pairs_hash key octets count → first ≡ word_at octets (16 * count) → second ≡ word_at octets (16 * count + 8) → product ≡ folded_product (bit_xor first key) (bit_xor second hash) → product ≡ pairs_hash key octets (count + 1)
unfolding pairs_hash
pairs_more key octets count hash first second product h f s p =
    p ∙ folded key hash first second (word_at octets (16 * count)) (word_at octets (16 * count + 8)) (pairs_hash key octets count) f s h ∙ ap (pairs_hash key octets) (sym (add-one count))

-- the hash, when all pairs are done
pub hash_done : (key : ℕ) (octets : List ℕ) (i hash first second product : ℕ) → i ≡ length octets / 16 → hash ≡ pairs_hash key octets i → first ≡ word_at octets (length octets - 16) → second ≡ word_at octets (length octets - 8) → product ≡ folded_product (bit_xor first key) (bit_xor second hash) → product / 2 ^ 32 ≡ hash_of key octets
unfolding hash_of
hash_done key octets i hash first second product end h f s p =
    ap (λ (n : ℕ). n / 2 ^ 32)
    (p ∙ folded key hash first second (word_at octets (length octets - 16)) (word_at octets (length octets - 8)) (pairs_hash key octets (length octets / 16)) f s (h ∙ ap (pairs_hash key octets) end))
