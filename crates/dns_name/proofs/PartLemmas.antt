-- Names made of the labels of others, in the bytes that they are written in.
use Rattle.std.proofs.Common.{◌≡◌, ℕ, ◌+◌, ◌-◌, ◌≤◌, ◌<◌, List, [], ◌∷◌, ◌++◌, length, take, drop, map, Ok, Err, refl, sym, ap, ◌∙◌, append_assoc, arith, length-append}
use Rattle.std.specs.List.{flat_map, AllByRecursion}
use Rattle.std.specs.Char.{to_ascii_lowercase}
use Rattle.std.proofs.lemmas.Bool.Decides.{nat_tests}
use Rattle.std.proofs.lemmas.Grind.{flat_map-append}
use Rattle.std.proofs.lemmas.List.{take_at, take-append-drop, length-take}
use Rattle.std.proofs.lemmas.Str.Ascii.{lowercase-lowercase}
use Rattle.dns_name.specs.Labels.{IsLabel, IsName, label_octets, name_octets, lowered}
use Rattle.dns_name.specs.Join.{join_outcome}

-- the bytes of the labels, without the zero at the end
abbrev pub label_bytes : List (List ℕ) → List ℕ
label_bytes name = flat_map label_octets name

pub octets_len : (name : List (List ℕ)) → length (name_octets name) ≡ length (label_bytes name) + 1
octets_len name = length-append (label_bytes name) (0 ∷ [])

pub front_octets : (name : List (List ℕ)) (n : ℕ) → n ≡ length (name_octets name) - 1 → take n (name_octets name) ≡ label_bytes name
front_octets name n e = take_at (label_bytes name) (0 ∷ []) n (omega (arith, octets_len name))

pub octets-append : (front back : List (List ℕ)) → name_octets (front ++ back) ≡ label_bytes front ++ name_octets back
octets-append front back = ap (λ (bytes : List ℕ). bytes ++ 0 ∷ []) (flat_map-append label_octets front back) ∙ append_assoc (label_bytes front) (label_bytes back) (0 ∷ [])

pub octets_len-append : (front back : List (List ℕ)) → length (name_octets (front ++ back)) ≡ length (label_bytes front) + length (name_octets back)
octets_len-append front back = ap length (octets-append front back) ∙ length-append (label_bytes front) (name_octets back)

-- the same, of the bytes without the first zero and of all others
pub joined_len : (front back : List (List ℕ)) (x y : List ℕ) → x ≡ name_octets front → y ≡ name_octets back → length (take (length x - 1) x) + length y ≡ length (name_octets (front ++ back))
joined_len front back x y e f = omega (arith, length-take (length x - 1) x, octets_len-append front back, octets_len front, ap length e, ap length f)

labels-append : (front back : List (List ℕ)) → AllByRecursion IsLabel front → AllByRecursion IsLabel back → AllByRecursion IsLabel (front ++ back)
labels-append [] back f b = b
labels-append (l ∷ ls) back f b = (f.0, labels-append ls back f.1 b)

labels-front : (front back : List (List ℕ)) → AllByRecursion IsLabel (front ++ back) → AllByRecursion IsLabel front
labels-front [] back h = tt
labels-front (l ∷ ls) back h = (h.0, labels-front ls back h.1)

pub IsName-append : (front back : List (List ℕ)) → IsName front → IsName back → length (name_octets (front ++ back)) ≤ 255 → IsName (front ++ back)
IsName-append front back f b h = record { labels = labels-append front back f.labels b.labels; short = h }

IsName-front : (front back : List (List ℕ)) → IsName (front ++ back) → IsName front
IsName-front front back h = record {
  labels = labels-front front back h.labels;
  short = omega (arith, h.short, octets_len-append front back, octets_len front, octets_len back);
}

-- some of the first labels
pub IsName-take : (name : List (List ℕ)) (count : ℕ) → IsName name → IsName (take count name)
IsName-take name count h = IsName-front (take count name) (drop count name) (rw take-append-drop h)

in_two : (name : List (List ℕ)) (count : ℕ) → name_octets name ≡ label_bytes (take count name) ++ name_octets (drop count name)
in_two name count = ap name_octets (sym (take-append-drop count name)) ∙ octets-append (take count name) (drop count name)

pub no_more_left : (name : List (List ℕ)) (count : ℕ) → length (name_octets (drop count name)) ≤ length (name_octets name)
no_more_left name count = omega (arith, ap length (in_two name count), length-append (label_bytes (take count name)) (name_octets (drop count name)))

pub taken_octets : (name : List (List ℕ)) (count n : ℕ) → n ≡ length (name_octets name) - length (name_octets (drop count name)) → take n (name_octets name) ≡ label_bytes (take count name)
taken_octets name count n e =
    let len : length (label_bytes (take count name)) ≡ n = omega (arith, e, ap length (in_two name count), length-append (label_bytes (take count name)) (name_octets (drop count name))) in
    ap (take n) (in_two name count) ∙ take_at (label_bytes (take count name)) (name_octets (drop count name)) n len

pub joined_long : (front back : List (List ℕ)) → 255 < length (name_octets (front ++ back)) → join_outcome front back ≡ Err (record {})
joined_long front back h = grind (arith, nat_tests)

pub joined_short : (front back : List (List ℕ)) → length (name_octets (front ++ back)) ≤ 255 → join_outcome front back ≡ Ok (front ++ back)
joined_short front back h = grind (arith, nat_tests)

label-lowered : (label : List ℕ) → map to_ascii_lowercase (map to_ascii_lowercase label) ≡ map to_ascii_lowercase label
label-lowered [] = refl
label-lowered (b ∷ bytes) = rw (lowercase-lowercase b, label-lowered bytes) refl

-- lower case stays as it is
pub lowered-lowered : (name : List (List ℕ)) → lowered (lowered name) ≡ lowered name
lowered-lowered [] = refl
lowered-lowered (l ∷ ls) = rw (label-lowered l, lowered-lowered ls) refl
