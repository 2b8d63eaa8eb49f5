-- Rows and their identities.
use Rattle.std.proofs.Common.{◌≡◌, ℕ, ◌<◌, ◌^◌, ◌↔◌, List, ◌++◌, length, take, drop, Ok, refl, sym, ap, ◌∙◌, append_assoc, arith}
use Rattle.std.proofs.lemmas.List.{take_at, drop_at}
use Rattle.dns_name.specs.Labels.{IsName, name_octets}
use Rattle.dns_name.specs.Reading.{NameOutcome, name_at}
use Rattle.dns_name.specs.Standing.{Stands}
use Rattle.dns_record.specs.Number.{number_at, number_octets}
use Rattle.dns_record.proofs.Numbers.{length-number_octets, number_read}
use Rattle.dns_record.specs.Row.{PlainRow, IsRow, AreAlike, identity}
use Rattle.dns_record.proofs.LowerCase.{name_first, name_rest}

same_name : (read : NameOutcome) (x y : List (List ℕ) × ℕ) → read ≡ Ok x → read ≡ Ok y → x ≡ y
same_name read x y e f = cc

-- the name in front is told by the octets
pub front_name : (a b : List (List ℕ)) (x y : List ℕ) → IsName a → IsName b → name_octets a ++ x ≡ name_octets b ++ y → (a ≡ b) × (x ≡ y)
front_name a b x y ha hb e =
    let octets = name_octets a ++ x in
    let same : (a, length (name_octets a)) ≡ (b, length (name_octets b)) =
    same_name (name_at octets 0) (a, length (name_octets a)) (b, length (name_octets b)) (name_first octets x a ha refl) (name_first octets y b hb e) in (
      ap (λ (p : List (List ℕ) × ℕ). p.0) same,
      sym (name_rest octets x a refl) ∙ ap (λ (p : List (List ℕ) × ℕ). drop p.1 octets) same ∙ name_rest octets y b e,
    )

number_first : (n : ℕ) (octets rest : List ℕ) → n < 2 ^ 16 → octets ≡ number_octets 2 n ++ rest → number_at 2 octets 0 ≡ n
number_first n octets rest lt e =
    let len : length (number_octets 2 n) ≡ 2 = length-number_octets 2 n in
    let stands : Stands (number_octets 2 n) octets 0 2 = record { begins = ap (take (length (number_octets 2 n))) e ∙ take_at (number_octets 2 n) rest (length (number_octets 2 n)) refl; ends = omega (arith, len) } in
    number_read 2 n octets 0 2 lt stands

number_rest : (n : ℕ) (octets rest : List ℕ) → octets ≡ number_octets 2 n ++ rest → drop 2 octets ≡ rest
number_rest n octets rest e = ap (drop 2) e ∙ drop_at (number_octets 2 n) rest 2 (length-number_octets 2 n)

-- the number in front is told by the octets
pub front_number : (n m : ℕ) (x y : List ℕ) → n < 2 ^ 16 → m < 2 ^ 16 → number_octets 2 n ++ x ≡ number_octets 2 m ++ y → (n ≡ m) × (x ≡ y)
front_number n m x y ln lm e =
    let octets = number_octets 2 n ++ x in
    (sym (number_first n octets x ln refl) ∙ number_first m octets y lm e, sym (number_rest n octets x refl) ∙ number_rest m octets y e)

regrouped : (row : PlainRow) → identity row ≡ name_octets row.owner ++ (number_octets 2 row.rtype ++ row.rdata)
unfolding identity
regrouped row = append_assoc (name_octets row.owner) (number_octets 2 row.rtype) row.rdata

told : (row other : PlainRow) → IsRow row → IsRow other → identity row ≡ identity other → AreAlike row other
told row other h k e =
    let names = front_name row.owner other.owner (number_octets 2 row.rtype ++ row.rdata) (number_octets 2 other.rtype ++ other.rdata) h.is_owner k.is_owner (sym (regrouped row) ∙ e ∙ regrouped other) in
    let numbers = front_number row.rtype other.rtype row.rdata other.rdata h.type_fits k.type_fits names.1 in
    record { owner = names.0; rtype = numbers.0; rdata = numbers.1 }

same : (row other : PlainRow) → AreAlike row other → identity row ≡ identity other
unfolding identity
same row other h = rw (h.owner, h.rtype, h.rdata) refl

pub told_by_identity : (row other : PlainRow) → IsRow row → IsRow other → (identity row ≡ identity other) ↔ AreAlike row other
told_by_identity row other h k = (told row other h k, same row other)
