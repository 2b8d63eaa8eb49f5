-- Keys of names in lower case.
use Rattle.std.proofs.Common.{◌≡◌, ℕ, ◌≤◌, List, [], ◌∷◌, ◌++◌, length, map, refl, sym, ap, ◌∙◌, arith}
use Rattle.std.proofs.lemmas.List.{length-map, map-append}
use Rattle.std.proofs.lemmas.Str.Ascii.{lowercase_is, lowercase-lowercase}
use Rattle.std.specs.Char.{to_ascii_lowercase}
use Rattle.std.specs.List.{AllByRecursion}
use Rattle.dns_name.specs.Labels.{Label, Name, IsLabel, IsName, label_octets, lowered}
use Rattle.qname_index.specs.Key.{name_key}
use Rattle.qname_index.specs.Lookup.{IsLookup}
use Rattle.qname_index.specs.Patterns.{name_in}
use Rattle.qname_index.proofs.Back.{name_back}
use Rattle.qname_index.proofs.Keys.{key_is_short, key_next}

label_twice : (label : Label) → map to_ascii_lowercase (map to_ascii_lowercase label) ≡ map to_ascii_lowercase label
label_twice [] = refl
label_twice (b ∷ bytes) = λ i. lowercase-lowercase b i ∷ label_twice bytes i

pub lowered_twice : (name : Name) → lowered (lowered name) ≡ lowered name
lowered_twice [] = refl
lowered_twice (label ∷ rest) = λ i. label_twice label i ∷ lowered_twice rest i

-- the length of a label is no letter
label_lowered : (label : Label) → IsLabel label → map to_ascii_lowercase (label_octets label) ≡ label_octets (map to_ascii_lowercase label)
label_lowered label is =
    ap (λ (n : ℕ). n ∷ map to_ascii_lowercase label) ((lowercase_is (length label)).1 (omega (arith, is.short)) ∙ sym (length-map label to_ascii_lowercase))

key_lowered_of : (name : Name) → AllByRecursion IsLabel name → map to_ascii_lowercase (name_key name) ≡ name_key (lowered name)
key_lowered_of [] are = refl
key_lowered_of (label ∷ rest) are =
    ap (map to_ascii_lowercase) (key_next label rest)
    ∙ map-append to_ascii_lowercase (name_key rest) (label_octets label)
    ∙ ap (λ (front : List ℕ). front ++ map to_ascii_lowercase (label_octets label)) (key_lowered_of rest are.1)
    ∙ ap (λ (back : List ℕ). name_key (lowered rest) ++ back) (label_lowered label are.0)
    ∙ sym (key_next (map to_ascii_lowercase label) (lowered rest))

-- the key of a name in lower case is the name's in lower case
pub key_lowered : (name : Name) → IsName name → map to_ascii_lowercase (name_key name) ≡ name_key (lowered name)
key_lowered name is = key_lowered_of name is.labels

pub lowered_is_short : (name : Name) → IsName name → length (name_key (lowered name)) ≤ 254
lowered_is_short name is =
    omega (arith, key_is_short name is, ap length (key_lowered name is), length-map (name_key name) to_ascii_lowercase)

-- what is the key of a name in lower case is that of a look-up
pub is_lookup : (name : Name) (octets : List ℕ) → lowered name ≡ name → octets ≡ name_key name → IsLookup (name_in octets) octets
is_lookup name octets low key =
    let same : name_in octets ≡ name = ap name_in key ∙ name_back name in
    record { lower = ap lowered same ∙ low ∙ sym same; key = key ∙ ap name_key (sym same) }

pub name_of_key : (name : Name) (octets : List ℕ) → octets ≡ name_key name → name_in octets ≡ name
name_of_key name octets key = ap name_in key ∙ name_back name
