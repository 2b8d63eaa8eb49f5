-- Orders that are made of several, one deciding where those before it don't; and names at one place of the canonical order.
use Rattle.std.proofs.Common.{◌≡◌, ℕ, Bool, true, false, List, [], ◌∷◌, ◌++◌, map, reverse, refl, sym, ap, ◌∙◌, eqb-true}
use Rattle.std.proofs.lemmas.List.{map-append, reverse-append, reverse-reverse}
use Rattle.std.proofs.lemmas.Map.Text.{is_eq-slice_cmp}
use Rattle.std.specs.Char.{to_ascii_lowercase}
use Rattle.std.specs.Cmp.{IsTotalOrder, on_total, unsigned_tied}
use Rattle.std.specs.Cmp.Lexicographic.{slice_cmp, bytes_decides, lists_total, nat_list_cmp_total}
use Rattle.std.specs.Ordering.{nat_cmp, bool_cmp, ordering_then, is_eq}
use Rattle.std.specs.declared.cmp.Ordering.{Ordering}
use Rattle.std.specs.declared.cmp.Ordering.TheVariants.{Less, Equal, Greater}
use Rattle.dns_name.specs.Labels.{Name, lowered}
use Rattle.dns_name.specs.Order.{label_order, canonical_order}

pub then_first : (r s : Ordering) → ordering_then r s ≡ Equal → r ≡ Equal
then_first Less s e = cc e
then_first Equal s e = refl
then_first Greater s e = cc e

pub then_second : (r s : Ordering) → ordering_then r s ≡ Equal → s ≡ Equal
then_second Less s e = cc e
then_second Equal s e = e
then_second Greater s e = cc e

pub same_number : (x y : ℕ) → nat_cmp x y ≡ Equal → x ≡ y
same_number x y e = eqb-true x y (sym (unsigned_tied x y) ∙ ap is_eq e)

pub same_bool : (a b : Bool) → bool_cmp a b ≡ Equal → a ≡ b
same_bool false false h = refl
same_bool false true h = cc h
same_bool true false h = cc h
same_bool true true h = refl

pub same_bytes : (xs ys : List ℕ) → slice_cmp nat_cmp xs ys ≡ Equal → xs ≡ ys
same_bytes xs ys e = (bytes_decides xs ys).0 (sym (is_eq-slice_cmp xs ys) ∙ ap is_eq e)

-- ---- the canonical order

label_total : IsTotalOrder label_order
label_total = on_total (λ (label : List ℕ). map to_ascii_lowercase label) nat_list_cmp_total

pub canonical_total : IsTotalOrder canonical_order
canonical_total = on_total (λ (name : Name). reverse name) (lists_total label_total)

pub lowered-reverse : (name : Name) → lowered (reverse name) ≡ reverse (lowered name)
lowered-reverse [] = refl
lowered-reverse (label ∷ name) =
    let lower = λ (l : List ℕ). map to_ascii_lowercase l in
    ap (λ (l : Name). lowered l) (reverse-append (label ∷ []) name)
    ∙ map-append lower (reverse name) (label ∷ [])
    ∙ ap (λ (l : Name). l ++ map to_ascii_lowercase label ∷ []) (lowered-reverse name)
    ∙ sym (reverse-append (map to_ascii_lowercase label ∷ []) (lowered name))

same_lowered : (a b : Name) → slice_cmp label_order a b ≡ Equal → lowered a ≡ lowered b
same_lowered [] [] e = refl
same_lowered [] (y ∷ b) e = cc e
same_lowered (x ∷ a) [] e = cc e
same_lowered (x ∷ a) (y ∷ b) e =
    let first : map to_ascii_lowercase x ≡ map to_ascii_lowercase y = same_bytes _ _ (then_first (label_order x y) (slice_cmp label_order a b) e) in
    let rest : lowered a ≡ lowered b = same_lowered a b (then_second (label_order x y) (slice_cmp label_order a b) e) in
    λ i. first i ∷ rest i

-- names that the order calls equal are alike
pub alike_from_equal : (a b : Name) → canonical_order a b ≡ Equal → lowered a ≡ lowered b
alike_from_equal a b e =
    let turned : reverse (lowered a) ≡ reverse (lowered b) = sym (lowered-reverse a) ∙ same_lowered (reverse a) (reverse b) e ∙ lowered-reverse b in
    sym (reverse-reverse (lowered a)) ∙ ap (λ (l : Name). reverse l) turned ∙ reverse-reverse (lowered b)
