-- The data of records: what is read has the parts of its type and class, and is short enough.
use Rattle.std.proofs.Common.{◌≡◌, ℕ, ◌+◌, ◌<◌, ◌≤◌, ◌^◌, cond, eqb, ltb, Bool, true, false, List, [], ◌∷◌, ◌++◌, length, take, drop, Option, Some, None, Result, Ok, Err, refl, sym, ap, subst, ◌∙◌, arith, length-append}
use Rattle.std.specs.Prelude.{MatchOption, ⊤}
use Rattle.std.proofs.lemmas.Bool.{cond_both, ltb-false}
use Rattle.std.proofs.lemmas.List.{length-take, length-drop}
use Rattle.dns_name.specs.Labels.{name_octets}
use Rattle.dns_name.specs.Reading.{◌>>=◌, NameOutcome, name_at}
use Rattle.dns_name.proofs.Standing.{name_is}
use Rattle.dns_record.specs.declared.fault.RecordFault.{RecordFault}
use Rattle.dns_record.specs.declared.fault.RecordFault.TheVariants.{Data}
use Rattle.dns_record.specs.declared.part.Part.{Part}
use Rattle.dns_record.specs.declared.part.Part.TheVariants.{Name, Fixed}
use Rattle.dns_record.specs.Becomes.{as_data}
use Rattle.dns_record.specs.Part.{is_one_name, layout_of, HasParts}
use Rattle.dns_record.specs.Reading.{with_octets, octets_at, part_at, parts_at}
use Rattle.dns_record.specs.Record.{IsData}

same_octets : (read : Result (List ℕ × ℕ) RecordFault) (x y : List ℕ × ℕ) → read ≡ Ok x → read ≡ Ok y → x ≡ y
same_octets read x y e f = cc

-- the most octets that data of these parts has
abbrev most_octets : List Part → ℕ
most_octets [] = 0
most_octets (Name ∷ parts) = 255 + most_octets parts
most_octets (Fixed count ∷ parts) = count + most_octets parts

has_at_most : (layout : List Part) (rdata : List ℕ) → HasParts layout rdata → length rdata ≤ most_octets layout
has_at_most [] rdata h = omega (arith, ap length h)
has_at_most (Name ∷ parts) rdata h = omega (arith, h.2.short, ap length h.3, length-append (name_octets h.0) h.1, has_at_most parts h.1 h.4)
has_at_most (Fixed count ∷ parts) rdata h = omega (arith, h.2, ap length h.3, length-append h.0 h.1, has_at_most parts h.1 h.4)

-- data of the layout, if there is one, is short
record ShortLayout (layout : Option (List Part)) : Type 0 where
  pub short : MatchOption layout ⊤ (λ parts. most_octets parts < 2 ^ 16)

none_short : ShortLayout None
none_short = record { short = tt }

some_short : (parts : List Part) → most_octets parts < 2 ^ 16 → ShortLayout (Some parts)
some_short parts lt = record { short = lt }

either_short : (b : Bool) (x y : Option (List Part)) → ShortLayout x → ShortLayout y → ShortLayout (cond b x y)
either_short true x y h k = h
either_short false x y h k = k

layout_short : (rtype class : ℕ) → ShortLayout (layout_of rtype class)
layout_short rtype class =
    let one_name = some_short (Name ∷ []) (omega arith) in
    let soa = some_short (Name ∷ Name ∷ Fixed 20 ∷ []) (omega arith) in
    let two_names = some_short (Name ∷ Name ∷ []) (omega arith) in
    let exchange = some_short (Fixed 2 ∷ Name ∷ []) (omega arith) in
    let service = some_short (Fixed 6 ∷ Name ∷ []) (omega arith) in
    let address = either_short (eqb rtype 1) _ _ (some_short (Fixed 4 ∷ []) (omega arith)) (either_short (eqb rtype 28) _ _ (some_short (Fixed 16 ∷ []) (omega arith)) none_short) in
    let others = either_short (eqb rtype 33) _ _ service (either_short (eqb class 1) _ _ address none_short) in
    either_short (is_one_name rtype) _ _ one_name (either_short (eqb rtype 6) _ _ soa (either_short (eqb rtype 14) _ _ two_names (either_short (eqb rtype 15) _ _ exchange others)))

-- data of a layout
pub is_data : (rtype class : ℕ) (rdata : List ℕ) (layout : List Part) → layout_of rtype class ≡ Some layout → HasParts layout rdata → IsData rtype class rdata
is_data rtype class rdata layout e h =
    let most : most_octets layout < 2 ^ 16 = subst (λ (o : Option (List Part)). MatchOption o ⊤ (λ (l : List Part). most_octets l < 2 ^ 16)) e (layout_short rtype class).short in
    let long : length rdata ≤ most_octets layout = has_at_most layout rdata h in
    record { parts = subst (λ (o : Option (List Part)). MatchOption o ⊤ (λ (l : List Part). HasParts l rdata)) (sym e) h; short = omega arith }

-- data without a layout
pub is_any_data : (rtype class : ℕ) (rdata : List ℕ) → layout_of rtype class ≡ None → length rdata < 2 ^ 16 → IsData rtype class rdata
is_any_data rtype class rdata e short = record { parts = subst (λ (o : Option (List Part)). MatchOption o ⊤ (λ (l : List Part). HasParts l rdata)) (sym e) tt; short = short }

-- what is read as parts has them
part_has : (part : Part) (message : List ℕ) (place : ℕ) (parts : List Part) (x : List ℕ × ℕ) (rest : List ℕ) → part_at part message place ≡ Ok x → HasParts parts rest → HasParts (part ∷ parts) (x.0 ++ rest)
part_has Name message place parts x rest e h = name_has (name_at message place) refl e
  where
    name_has : (read : NameOutcome) → name_at message place ≡ read → as_data read >>= (λ name. Ok (name_octets name.0, name.1)) ≡ Ok x → HasParts (Name ∷ parts) (x.0 ++ rest)
    name_has (Ok (name, after)) r e =
        let same : (name_octets name, after) ≡ x = same_octets (Ok (name_octets name, after)) (name_octets name, after) x refl e in
        (name, rest, name_is name message place after r, ap (λ (y : List ℕ × ℕ). y.0 ++ rest) (sym same), h)
    name_has (Err fault) r e = absurd cc
part_has (Fixed count) message place parts x rest e h = octets_has e
  where
    P : Result (List ℕ × ℕ) RecordFault → Type 0
    P r = r ≡ Ok x → HasParts (Fixed count ∷ parts) (x.0 ++ rest)

    octets_has : octets_at count message place ≡ Ok x → HasParts (Fixed count ∷ parts) (x.0 ++ rest)
    octets_has =
        cond_both (ltb (length message) (place + count)) (Err Data) (Ok (take count (drop place message), place + count)) P
        (λ t f. absurd cc)
        (λ t f.
        let same : (take count (drop place message), place + count) ≡ x = same_octets (Ok (take count (drop place message), place + count)) (take count (drop place message), place + count) x refl f in
        let enough = ltb-false (length message) (place + count) t in
        let len : length (take count (drop place message)) ≡ count = omega (arith, length-take count (drop place message), length-drop place message) in
        (x.0, rest, ap (λ (y : List ℕ × ℕ). length y.0) (sym same) ∙ len, refl, h))

rest_has : (part : Part) (parts : List Part) (message : List ℕ) (place : ℕ) (x first : List ℕ × ℕ) (others : Result (List ℕ × ℕ) RecordFault) → part_at part message place ≡ Ok first
    → ((y : List ℕ × ℕ) → others ≡ Ok y → HasParts parts y.0) → with_octets first.0 others ≡ Ok x → HasParts (part ∷ parts) x.0
rest_has part parts message place x first (Ok y) r go f =
    let same : (first.0 ++ y.0, y.1) ≡ x = same_octets (Ok (first.0 ++ y.0, y.1)) (first.0 ++ y.0, y.1) x refl f in
    subst (λ (z : List ℕ × ℕ). HasParts (part ∷ parts) z.0) same (part_has part message place parts first y.0 r (go y refl))
rest_has part parts message place x first (Err fault) r go f = absurd cc

first_has : (part : Part) (parts : List Part) (message : List ℕ) (place : ℕ) (x : List ℕ × ℕ) (first : Result (List ℕ × ℕ) RecordFault) → part_at part message place ≡ first
    → ((place : ℕ) (y : List ℕ × ℕ) → parts_at parts message place ≡ Ok y → HasParts parts y.0) → first >>= (λ y. with_octets y.0 (parts_at parts message y.1)) ≡ Ok x → HasParts (part ∷ parts) x.0
first_has part parts message place x (Ok y) r go f = rest_has part parts message place x y (parts_at parts message y.1) r (go y.1) f
first_has part parts message place x (Err fault) r go f = absurd cc

pub parts_have : (parts : List Part) (message : List ℕ) (place : ℕ) (x : List ℕ × ℕ) → parts_at parts message place ≡ Ok x → HasParts parts x.0
unfolding parts_at
parts_have [] message place x e =
    let same : ([], place) ≡ x = same_octets (Ok ([], place)) ([], place) x refl e in
    ap (λ (y : List ℕ × ℕ). y.0) (sym same)
parts_have (part ∷ parts) message place x e = first_has part parts message place x (part_at part message place) refl (λ at y f. parts_have parts message at y f) e
