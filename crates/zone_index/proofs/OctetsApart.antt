-- The octets of a place tell it from all others, since it is read from them.
use Rattle.std.proofs.Common.{◌≡◌, ℕ, zero, suc, ◌+◌, ◌-◌, ◌/◌, ◌%◌, ◌*◌, ◌^◌, ◌<◌, ◌≤◌, List, [], ◌∷◌, ◌++◌, length, map, take, drop, refl, sym, ap, ◌∙◌, arith, length-append}
use Rattle.std.proofs.Math.Seq.{take-append_seam}
use Rattle.std.proofs.lemmas.Nat.{div-add-mod', from_be_bytes-to_be_bytes_8}
use Rattle.std.specs.Int.{from_be_bytes, to_be_bytes, w64}
use Rattle.dns_name.specs.Alike.{PlainPattern}
use Rattle.ip_prefix.specs.Prefix.{PlainPrefix, family, number_of}
use Rattle.ip_prefix.specs.declared.Addr.{Addr}
use Rattle.ip_prefix.specs.declared.Addr.TheVariants.{V4, V6}
use Rattle.qname_index.specs.Key.{name_key}
use Rattle.qname_index.specs.Patterns.{pattern_in}
use Rattle.qname_index.specs.Ranked.{pattern_key}
use Rattle.zone_index.specs.PlaceOctets.{IsSized, IsSizedTrigger, flag, number_octets, pattern_octets, place_octets, prefix_octets, trigger_octets}
use Rattle.zone_index.specs.declared.place.Place.{Place}
use Rattle.zone_index.specs.declared.place.Place.TheVariants.{Rule, Other}
use Rattle.trigger_codec.specs.declared.trigger.Trigger.{Trigger}
use Rattle.trigger_codec.specs.declared.trigger.Trigger.TheVariants.{ClientIp, Qname, ResponseIp, NsDname, NsIp}

-- ---- what stands between the first octet and the last

-- all but the first and the last
pub inside : (k : ℕ) (xs : List ℕ) (x : ℕ) → take (length (k ∷ (xs ++ x ∷ [])) - 2) (drop 1 (k ∷ (xs ++ x ∷ []))) ≡ xs
inside k xs x =
    let count : length (k ∷ (xs ++ x ∷ [])) - 2 ≡ length xs = omega (arith, length-append xs (x ∷ [])) in
    ap (λ n. take n (xs ++ x ∷ [])) count ∙ take-append_seam xs (x ∷ [])

pub is_long : (k : ℕ) (xs : List ℕ) (x : ℕ) → 2 ≤ length (k ∷ (xs ++ x ∷ []))
is_long k xs x = omega (arith, length-append xs (x ∷ []))

-- ---- a pattern is read from its octets

-- what the law of keys says
abbrev pub Keys : Type 0
Keys = (pattern : PlainPattern) → pattern_in (pattern_key pattern) ≡ pattern

-- the key of a pattern, from its octets
abbrev pub key_in : List ℕ → List ℕ
key_in [] = []
key_in (x ∷ []) = x ∷ []
key_in (x ∷ y ∷ octets) = (x + 2) ∷ key_in (y ∷ octets)

key_back : (octets : List ℕ) (x : ℕ) → key_in (octets ++ x ∷ []) ≡ map (λ o. o + 2) octets ++ x ∷ []
key_back [] x = refl
key_back (a ∷ []) x = refl
key_back (a ∷ b ∷ octets) x = ap (λ xs. (a + 2) ∷ xs) (key_back (b ∷ octets) x)

pattern_back : Keys → (p : PlainPattern) → pattern_in (key_in (pattern_octets p)) ≡ p
pattern_back keys p = ap pattern_in (key_back (name_key p.base) (flag p.wild)) ∙ keys p

-- ---- a prefix is read from its octets

-- the number that 16 octets give, the highest first
abbrev pub number_in : List ℕ → ℕ
number_in octets = from_be_bytes w64 (take 8 octets) * 2 ^ 64 + from_be_bytes w64 (drop 8 octets)

number_back : (n : ℕ) → n < 2 ^ 128 → number_in (number_octets n) ≡ n
number_back n h =
    let high : from_be_bytes w64 (to_be_bytes w64 (n / 2 ^ 64)) ≡ n / 2 ^ 64 = from_be_bytes-to_be_bytes_8 (n / 2 ^ 64) (omega arith) in
    let low : from_be_bytes w64 (to_be_bytes w64 (n % 2 ^ 64)) ≡ n % 2 ^ 64 = from_be_bytes-to_be_bytes_8 (n % 2 ^ 64) (omega arith) in
    ap (λ x. x * 2 ^ 64 + from_be_bytes w64 (to_be_bytes w64 (n % 2 ^ 64))) high ∙ ap (λ x. n / 2 ^ 64 * 2 ^ 64 + x) low ∙ div-add-mod' n (2 ^ 64)

-- the address of a family
abbrev pub addr_in : ℕ → ℕ → Addr
addr_in zero number = V4 number
addr_in (suc f) number = V6 number

addr_back : (a : Addr) → addr_in (family a) (number_of a) ≡ a
addr_back (V4 number) = refl
addr_back (V6 number) = refl

abbrev pub prefix_in : List ℕ → PlainPrefix
prefix_in [] = record { addr = V4 0; length = 0 }
prefix_in (f ∷ []) = record { addr = V4 0; length = 0 }
prefix_in (f ∷ n ∷ octets) = record { addr = addr_in f (number_in octets); length = n }

prefix_back : (p : PlainPrefix) → number_of p.addr < 2 ^ 128 → prefix_in (prefix_octets p) ≡ p
prefix_back p h =
    let addr : addr_in (family p.addr) (number_in (number_octets (number_of p.addr))) ≡ p.addr =
    ap (λ n. addr_in (family p.addr) n) (number_back (number_of p.addr) h) ∙ addr_back p.addr in
    λ i. record { addr = addr i; length = p.length }

-- ---- a place is read from its octets

-- the place of a kind, by the octets behind the kind
abbrev pub place_of : ℕ → List ℕ → Place
place_of zero octets = Rule (ClientIp (prefix_in octets))
place_of (suc zero) octets = Rule (Qname (pattern_in (key_in octets)))
place_of (suc (suc zero)) octets = Rule (ResponseIp (prefix_in octets))
place_of (suc (suc (suc zero))) octets = Rule (NsDname (pattern_in (key_in octets)))
place_of (suc (suc (suc (suc zero)))) octets = Rule (NsIp (prefix_in octets))
place_of (suc (suc (suc (suc (suc kind))))) octets = Other (pattern_in (key_in octets))

abbrev pub place_in : List ℕ → Place
place_in [] = Other (pattern_in [])
place_in (kind ∷ octets) = place_of kind octets

trigger_back : Keys → (t : Trigger) → IsSizedTrigger t → place_in (trigger_octets t) ≡ Rule t
trigger_back keys (ClientIp p) h = ap (λ x. Rule (ClientIp x)) (prefix_back p h)
trigger_back keys (Qname p) h = ap (λ x. Rule (Qname x)) (pattern_back keys p)
trigger_back keys (ResponseIp p) h = ap (λ x. Rule (ResponseIp x)) (prefix_back p h)
trigger_back keys (NsDname p) h = ap (λ x. Rule (NsDname x)) (pattern_back keys p)
trigger_back keys (NsIp p) h = ap (λ x. Rule (NsIp x)) (prefix_back p h)

place_back : Keys → (p : Place) → IsSized p → place_in (place_octets p) ≡ p
place_back keys (Rule t) h = trigger_back keys t h
place_back keys (Other p) h = ap (λ x. Other x) (pattern_back keys p)

pub octets_tell_places : Keys → (p q : Place) → IsSized p → IsSized q → place_octets p ≡ place_octets q → p ≡ q
octets_tell_places keys p q h k e = sym (place_back keys p h) ∙ ap place_in e ∙ place_back keys q k
