-- Keys label by label.
use Rattle.std.proofs.Common.{◌≡◌, ℕ, ◌≤◌, List, [], ◌∷◌, ◌++◌, length, reverse, take, drop, refl, sym, ap, ◌∙◌, arith, append-nil, append_assoc, length-append}
use Rattle.std.proofs.Math.Seq.{take-append_seam, drop-append_seam}
use Rattle.std.proofs.lemmas.Grind.{flat_map-append}
use Rattle.std.proofs.lemmas.List.{reverse-append, reverse-reverse}
use Rattle.std.specs.List.{flat_map}
use Rattle.dns_name.specs.Labels.{Label, Name, IsName, label_octets}
use Rattle.qname_index.specs.Key.{name_key}

-- the first label of a name comes last
pub key_next : (label : Label) (rest : Name) → name_key (label ∷ rest) ≡ name_key rest ++ label_octets label
key_next label rest =
    ap (flat_map label_octets) (reverse-append (label ∷ []) rest)
    ∙ flat_map-append label_octets (reverse rest) (label ∷ [])
    ∙ ap (λ l. name_key rest ++ l) (append-nil (label_octets label))

pub as_long : (name : Name) → length (name_key name) ≡ length (flat_map label_octets name)
as_long [] = refl
as_long (label ∷ rest) =
    omega (arith, ap length (key_next label rest), length-append (name_key rest) (label_octets label), as_long rest, length-append (label_octets label) (flat_map label_octets rest))

pub key_is_short : (name : Name) → IsName name → length (name_key name) ≤ 254
key_is_short name is = omega (arith, is.short, as_long name, length-append (flat_map label_octets name) (0 ∷ []))

-- names below others

written : List Label → List ℕ
written labels = flat_map label_octets labels

same_parts : (xs ys us vs : List ℕ) → length xs ≡ length us → xs ++ ys ≡ us ++ vs → (xs ≡ us) × (ys ≡ vs)
same_parts xs ys us vs long e = (
  sym (take-append_seam xs ys) ∙ ap (λ l. take (length xs) l) e ∙ ap (λ n. take n (us ++ vs)) long ∙ take-append_seam us vs,
  sym (drop-append_seam xs ys) ∙ ap (λ l. drop (length xs) l) e ∙ ap (λ n. drop n (us ++ vs)) long ∙ drop-append_seam us vs,
)

head_same : (x y : ℕ) (xs ys : List ℕ) → x ∷ xs ≡ y ∷ ys → (x ≡ y) × (xs ≡ ys)
head_same x y xs ys e = (cc e, cc e)

-- of labels that begin as others are written, these are the first
pub labels_begin : (labels others : List Label) (rest : List ℕ) → flat_map label_octets labels ++ rest ≡ flat_map label_octets others
    → (more : List Label) × (others ≡ labels ++ more) × (rest ≡ flat_map label_octets more)
labels_begin [] others rest e = (others, refl, e)
labels_begin (l ∷ labels) [] rest e = cc e
labels_begin (l ∷ labels) (m ∷ others) rest e =
    let heads : (length l ≡ length m) × ((l ++ flat_map label_octets labels) ++ rest ≡ m ++ flat_map label_octets others) =
    head_same (length l) (length m) ((l ++ flat_map label_octets labels) ++ rest) (m ++ flat_map label_octets others) e in
    let parts : (l ≡ m) × (flat_map label_octets labels ++ rest ≡ flat_map label_octets others) =
    same_parts l (flat_map label_octets labels ++ rest) m (flat_map label_octets others) heads.0 (sym (append_assoc l (flat_map label_octets labels) rest) ∙ heads.1) in
    let deep = labels_begin labels others rest parts.1 in
    (deep.0, (λ i. sym parts.0 i ∷ deep.1 i), deep.2)

pub labels_same : (labels others : List Label) → flat_map label_octets labels ≡ flat_map label_octets others → labels ≡ others
labels_same [] [] e = refl
labels_same [] (m ∷ others) e = cc e
labels_same (l ∷ labels) [] e = cc e
labels_same (l ∷ labels) (m ∷ others) e =
    let heads : (length l ≡ length m) × (l ++ flat_map label_octets labels ≡ m ++ flat_map label_octets others) =
    head_same (length l) (length m) (l ++ flat_map label_octets labels) (m ++ flat_map label_octets others) e in
    let parts : (l ≡ m) × (flat_map label_octets labels ≡ flat_map label_octets others) =
    same_parts l (flat_map label_octets labels) m (flat_map label_octets others) heads.0 heads.1 in
    λ i. parts.0 i ∷ labels_same labels others parts.1 i

-- names of one key are one
pub key_same : (a b : Name) → name_key a ≡ name_key b → a ≡ b
key_same a b e = sym (reverse-reverse a) ∙ ap reverse (labels_same (reverse a) (reverse b) e) ∙ reverse-reverse b

-- a name whose key begins with another's ends with that name
pub key_begins : (name base : Name) (rest : List ℕ) → name_key base ++ rest ≡ name_key name → (front : List Label) × (name ≡ front ++ base)
key_begins name base rest e =
    let deep = labels_begin (reverse base) (reverse name) rest e in
    (reverse deep.0, sym (reverse-reverse name) ∙ ap reverse deep.1 ∙ reverse-append (reverse base) deep.0 ∙ ap (λ l. reverse deep.0 ++ l) (reverse-reverse base))

-- the key of a name that ends with another begins with that one's
pub key_of_front : (front base : Name) → name_key (front ++ base) ≡ name_key base ++ name_key front
key_of_front front base = ap (flat_map label_octets) (reverse-append front base) ∙ flat_map-append label_octets (reverse base) (reverse front)
