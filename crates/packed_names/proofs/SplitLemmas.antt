-- A name in full at the front of octets is split from the rest.
use Rattle.std.proofs.Common.{◌≡◌, ℕ, ◌+◌, ◌<◌, List, [], ◌∷◌, ◌++◌, length, take, drop, get_or, refl, sym, ap, ◌∙◌, append_assoc, arith, length-append}
use Rattle.std.specs.List.{flat_map, AllByRecursion}
use Rattle.std.proofs.Math.Seq.{get_or-append_seam}
use Rattle.std.proofs.lemmas.List.{take_at, drop_at}
use Rattle.dns_name.specs.Labels.{IsLabel, IsName, label_octets, name_octets}
use Rattle.dns_name.specs.Wire.{IsWire}
use Rattle.dns_name.proofs.WireLemmas.{name_octets-cons, IsWire-octets}
use Rattle.packed_names.specs.Front.{BeginsWithName}

-- what is known when some labels were passed over, and these are left of the name
pub record Passing (octets : List ℕ) (name : List (List ℕ)) (rest : List ℕ) (at : ℕ) : Type 0 where
  pub front : List ℕ
  pub left : List (List ℕ)
  pub each : AllByRecursion IsLabel left
  pub name_is : name_octets name ≡ front ++ name_octets left
  pub octets_are : octets ≡ front ++ (name_octets left ++ rest)
  pub at_is : at ≡ length front

abbrev pub AllPassing : List ℕ → ℕ → Type 0
AllPassing octets at = (name : List (List ℕ)) (rest : List ℕ) → IsName name → octets ≡ name_octets name ++ rest → Passing octets name rest at

pub Passing-start : (octets : List ℕ) → AllPassing octets 0
Passing-start octets name rest is whole = record { front = []; left = name; each = is.labels; name_is = refl; octets_are = whole; at_is = refl }

-- the byte at the index
byte_at : (front : List ℕ) (left : List (List ℕ)) (rest octets : List ℕ) (at : ℕ) (b : ℕ) (more : List ℕ) → octets ≡ front ++ (name_octets left ++ rest) → at ≡ length front → name_octets left ++ rest ≡ b ∷ more → get_or octets at 0 ≡ b
byte_at front left rest octets at b more is at_is head =
    ap (λ (n : ℕ). get_or octets n 0) at_is ∙ ap (λ (o : List ℕ). get_or o (length front) 0) (is ∙ ap (λ (o : List ℕ). front ++ o) head) ∙ get_or-append_seam front b more 0

next_label : (octets : List ℕ) (name : List (List ℕ)) (rest : List ℕ) (at : ℕ) (front : List ℕ) (left : List (List ℕ)) → AllByRecursion IsLabel left → name_octets name ≡ front ++ name_octets left → octets ≡ front ++ (name_octets left ++ rest) → at ≡ length front → (get_or octets at 0 ≡ 0 → ⊥)
    → Passing octets name rest (at + (get_or octets at 0 + 1))
next_label octets name rest at front [] each name_is is at_is some = absurd (some (byte_at front [] rest octets at 0 rest is at_is refl))
next_label octets name rest at front (l ∷ ls) each name_is is at_is some =
    let cons : name_octets (l ∷ ls) ++ rest ≡ label_octets l ++ (name_octets ls ++ rest) = ap (λ (o : List ℕ). o ++ rest) (name_octets-cons l ls) ∙ append_assoc (label_octets l) (name_octets ls) rest in
    let b : get_or octets at 0 ≡ length l = byte_at front (l ∷ ls) rest octets at (length l) (l ++ (name_octets ls ++ rest)) is at_is cons in
    record {
      front = front ++ label_octets l;
      left = ls;
      each = each.1;
      name_is = name_is ∙ ap (λ (o : List ℕ). front ++ o) (name_octets-cons l ls) ∙ sym (append_assoc front (label_octets l) (name_octets ls));
      octets_are = is ∙ ap (λ (o : List ℕ). front ++ o) cons ∙ sym (append_assoc front (label_octets l) (name_octets ls ++ rest));
      at_is = omega (arith, length-append front (label_octets l));
    }

pub Passing-label : (octets : List ℕ) (at : ℕ) → (get_or octets at 0 ≡ 0 → ⊥) → AllPassing octets at → AllPassing octets (at + (get_or octets at 0 + 1))
Passing-label octets at some all name rest is whole =
    let h = all name rest is whole in
    next_label octets name rest at h.front h.left h.each h.name_is h.octets_are h.at_is some

-- the index is inside
pub Passing-inside : (octets : List ℕ) (at : ℕ) → BeginsWithName octets → AllPassing octets at → at < length octets
Passing-inside octets at b all =
    let h = all b.name b.rest b.is b.whole in
    omega (arith, h.at_is, ap length h.octets_are, length-append h.front (name_octets h.left ++ b.rest), length-append (name_octets h.left) b.rest, length-append (flat_map label_octets h.left) (0 ∷ []))

pub record Split (octets : List ℕ) (name : List (List ℕ)) (rest : List ℕ) (at : ℕ) : Type 0 where
  pub name_is : take (at + 1) octets ≡ name_octets name
  pub rest_is : drop (at + 1) octets ≡ rest

last : (octets : List ℕ) (name : List (List ℕ)) (rest : List ℕ) (at : ℕ) (front : List ℕ) (left : List (List ℕ)) → AllByRecursion IsLabel left → name_octets name ≡ front ++ name_octets left → octets ≡ front ++ (name_octets left ++ rest) → at ≡ length front → get_or octets at 0 ≡ 0 → Split octets name rest at
last octets name rest at front [] each name_is is at_is zero =
    let cut : octets ≡ (front ++ 0 ∷ []) ++ rest = is ∙ sym (append_assoc front (0 ∷ []) rest) in
    let len : length (front ++ 0 ∷ []) ≡ at + 1 = omega (arith, length-append front (0 ∷ [])) in
    record {
      name_is = ap (take (at + 1)) cut ∙ take_at (front ++ 0 ∷ []) rest (at + 1) len ∙ sym name_is;
      rest_is = ap (drop (at + 1)) cut ∙ drop_at (front ++ 0 ∷ []) rest (at + 1) len;
    }
last octets name rest at front (l ∷ ls) each name_is is at_is zero =
    let cons : name_octets (l ∷ ls) ++ rest ≡ label_octets l ++ (name_octets ls ++ rest) = ap (λ (o : List ℕ). o ++ rest) (name_octets-cons l ls) ∙ append_assoc (label_octets l) (name_octets ls) rest in
    let b : get_or octets at 0 ≡ length l = byte_at front (l ∷ ls) rest octets at (length l) (l ++ (name_octets ls ++ rest)) is at_is cons in
    absurd (omega (arith, each.0.not_empty))

pub Passing-end : (octets : List ℕ) (at : ℕ) → get_or octets at 0 ≡ 0 → AllPassing octets at → (name : List (List ℕ)) (rest : List ℕ) → IsName name → octets ≡ name_octets name ++ rest → Split octets name rest at
Passing-end octets at zero all name rest is whole =
    let h = all name rest is whole in
    last octets name rest at h.front h.left h.each h.name_is h.octets_are h.at_is zero

pub split_wire : (octets : List ℕ) (at : ℕ) → get_or octets at 0 ≡ 0 → BeginsWithName octets → AllPassing octets at → IsWire (take (at + 1) octets)
split_wire octets at zero b all = IsWire-octets (take (at + 1) octets) b.name (Passing-end octets at zero all b.name b.rest b.is b.whole).name_is b.is
