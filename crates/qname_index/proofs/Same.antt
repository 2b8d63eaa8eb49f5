-- Patterns are told by their places in the order of precedence, and by their keys.
use Rattle.std.proofs.Common.{◌≡◌, ℕ, true, List, [], ◌∷◌, ◌++◌, length, refl, sym, ap, ◌∙◌, nat_cmp}
use Rattle.std.proofs.lemmas.Cmp.{nat_list_cmp_total}
use Rattle.std.proofs.lemmas.Map.Lookups.{exact_bytes}
use Rattle.std.specs.BTreeMap.{is_at}
use Rattle.std.specs.Cmp.{IsTotalOrder, on_total}
use Rattle.std.specs.Cmp.Lexicographic.{slice_cmp}
use Rattle.std.specs.List.{flat_map}
use Rattle.std.specs.Ordering.{bool_cmp}
use Rattle.std.specs.declared.cmp.Ordering.{Ordering}
use Rattle.std.specs.declared.cmp.Ordering.TheVariants.{Equal}
use Rattle.dns_name.specs.Alike.{PlainPattern}
use Rattle.dns_name.specs.Labels.{Name, label_octets, name_octets}
use Rattle.qname_index.specs.Best.{pattern_order}
use Rattle.qname_index.proofs.Rank.{rank_of, rank_total}
use Rattle.qname_index.specs.Patterns.{pattern_in}
use Rattle.qname_index.specs.Ranked.{IsPatternKey, pattern_key}
use Rattle.qname_index.proofs.Back.{pattern_back}
use Rattle.trie_keys.proofs.ByKey.{tied_if, at_itself}
use Rattle.qname_index.proofs.Keys.{labels_same}
use Rattle.qname_index.proofs.Matching.{both_ways}
use Rattle.dns_name.proofs.Orders.{then_first, then_second, same_bool}

pub pattern_total : IsTotalOrder pattern_order
pattern_total = on_total rank_of rank_total

-- keys compare as lists of numbers
abbrev pub key_order : List ℕ → List ℕ → Ordering
key_order a b = slice_cmp nat_cmp a b

pub key_total : IsTotalOrder key_order
key_total = nat_list_cmp_total

-- names that are written alike, without the zero at the end
not_longer : (x : ℕ) (xs : List ℕ) → x ∷ (xs ++ 0 ∷ []) ≡ 0 ∷ [] → ⊥
not_longer x [] e = cc e
not_longer x (y ∷ xs) e = cc e

tail_same : (x y : ℕ) (xs ys : List ℕ) → x ∷ xs ≡ y ∷ ys → (x ≡ y) × (xs ≡ ys)
tail_same x y xs ys e = (cc e, cc e)

without_zero : (xs ys : List ℕ) → xs ++ 0 ∷ [] ≡ ys ++ 0 ∷ [] → xs ≡ ys
without_zero [] [] e = refl
without_zero [] (y ∷ ys) e = absurd (not_longer y ys (sym e))
without_zero (x ∷ xs) [] e = absurd (not_longer x xs e)
without_zero (x ∷ xs) (y ∷ ys) e =
    let both = tail_same x y (xs ++ 0 ∷ []) (ys ++ 0 ∷ []) e in
    let rest : xs ≡ ys = without_zero xs ys both.1 in
    λ i. both.0 i ∷ rest i

same_written : (a b : Name) → name_octets a ≡ name_octets b → a ≡ b
same_written a b e = labels_same a b (without_zero (flat_map label_octets a) (flat_map label_octets b) e)

-- patterns at one place are one
pub same_pattern : (p q : PlainPattern) → is_at (pattern_order p) q ≡ true → p ≡ q
same_pattern p q h =
    let tie : pattern_order p q ≡ Equal = tied_if (pattern_order p q) h in
    let rest = then_second (bool_cmp p.wild q.wild) _ tie in
    let wild : p.wild ≡ q.wild = same_bool p.wild q.wild (then_first _ _ tie) in
    let octets : slice_cmp nat_cmp (name_octets p.base) (name_octets q.base) ≡ Equal = then_second (nat_cmp (length q.base) (length p.base)) _ rest in
    let base : p.base ≡ q.base = same_written p.base q.base (exact_bytes (name_octets p.base) (name_octets q.base) octets) in
    λ i. record { base = base i; wild = wild i }

pub same_key : (a b : List ℕ) → is_at (key_order a) b ≡ true → a ≡ b
same_key a b h = exact_bytes a b (tied_if (key_order a b) h)

-- patterns of one key are one
pub key_pattern : (p q : PlainPattern) → pattern_key p ≡ pattern_key q → p ≡ q
key_pattern p q e = sym (pattern_back p) ∙ ap pattern_in e ∙ pattern_back q

-- patterns are at one place as their keys are
pub at_pattern : (p q : PlainPattern) → is_at (pattern_order p) q ≡ is_at (key_order (pattern_key p)) (pattern_key q)
at_pattern p q =
    both_ways _ _
    (λ h. ap (λ r. is_at (key_order (pattern_key p)) (pattern_key r)) (sym (same_pattern p q h)) ∙ at_itself key_total (pattern_key p))
    (λ h. ap (λ r. is_at (pattern_order p) r) (sym (key_pattern p q (same_key (pattern_key p) (pattern_key q) h))) ∙ at_itself pattern_total p)

pub at_key : (p : PlainPattern) (key : List ℕ) → IsPatternKey key → is_at (pattern_order p) (pattern_in key) ≡ is_at (key_order (pattern_key p)) key
at_key p key is = at_pattern p (pattern_in key) ∙ ap (λ k. is_at (key_order (pattern_key p)) k) (sym is.same)
