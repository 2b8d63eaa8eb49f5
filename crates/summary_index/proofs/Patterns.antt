-- Patterns stand at one place as their keys do.
use Rattle.std.proofs.Common.{◌≡◌, ℕ, Bool, true, false, List, [], ◌∷◌, ◌++◌, length, reverse, refl, sym, ap, ◌∙◌}
use Rattle.std.proofs.lemmas.List.{reverse-reverse}
use Rattle.std.proofs.lemmas.Map.Lookups.{exact_bytes}
use Rattle.std.specs.BTreeMap.{is_at}
use Rattle.std.specs.Cmp.Lexicographic.{slice_cmp}
use Rattle.std.specs.List.{flat_map}
use Rattle.std.specs.Ordering.{bool_cmp, nat_cmp}
use Rattle.std.specs.declared.cmp.Ordering.TheVariants.{Equal}
use Rattle.dns_name.specs.Alike.{PlainPattern}
use Rattle.dns_name.specs.Labels.{Name, label_octets, name_octets}
use Rattle.octet_trie.specs.ListKeys.{entry_key}
use Rattle.qname_index.specs.Best.{pattern_order}
use Rattle.qname_index.specs.Patterns.{pattern_in}
use Rattle.qname_index.specs.Ranked.{IsPatternKey, pattern_key}
use Rattle.summary_index.proofs.MergedZones.{key_order, key_total}
use Rattle.trie_keys.proofs.ByKey.{at_itself, tied_if}
use Rattle.summary_index.proofs.Putting.{pattern_total}
use Rattle.dns_name.proofs.Orders.{then_first, then_second, same_bool}

both_ways : (a b : Bool) → (a ≡ true → b ≡ true) → (b ≡ true → a ≡ true) → a ≡ b
both_ways true b there back = sym (there refl)
both_ways false true there back = back refl
both_ways false false there back = refl

-- names that are written alike, without the zero at the end
not_longer : (x : ℕ) (xs : List ℕ) → x ∷ (xs ++ 0 ∷ []) ≡ 0 ∷ [] → ⊥
not_longer x [] e = cc e
not_longer x (y ∷ xs) e = cc e

tail_same : (x y : ℕ) (xs ys : List ℕ) → x ∷ xs ≡ y ∷ ys → (x ≡ y) × (xs ≡ ys)
tail_same x y xs ys e = (cc e, cc e)

without_zero : (xs ys : List ℕ) → xs ++ 0 ∷ [] ≡ ys ++ 0 ∷ [] → xs ≡ ys
without_zero [] [] e = refl
without_zero [] (y ∷ ys) e = absurd (not_longer y ys (sym e))
without_zero (x ∷ xs) [] e = absurd (not_longer x xs e)
without_zero (x ∷ xs) (y ∷ ys) e =
    let both = tail_same x y (xs ++ 0 ∷ []) (ys ++ 0 ∷ []) e in
    let rest : xs ≡ ys = without_zero xs ys both.1 in
    λ i. both.0 i ∷ rest i

-- a name as an exact pattern
abbrev exact : Name → PlainPattern
exact name = record { base = name; wild = false }

-- that a pattern is read back from its key is what qname_index promises
module _ (back : (p : PlainPattern) → pattern_in (pattern_key p) ≡ p) where
  key_pattern : (p q : PlainPattern) → pattern_key p ≡ pattern_key q → p ≡ q
  key_pattern p q e = sym (back p) ∙ ap pattern_in e ∙ back q

  -- the labels of a name are the key of the name with its labels turned round
  turned : (a : Name) → pattern_key (exact (reverse a)) ≡ entry_key (flat_map label_octets a) false
  turned a = ap (λ (labels : Name). entry_key (flat_map label_octets labels) false) (reverse-reverse a)

  same_written : (a b : Name) → name_octets a ≡ name_octets b → a ≡ b
  same_written a b e =
      let octets : flat_map label_octets a ≡ flat_map label_octets b = without_zero (flat_map label_octets a) (flat_map label_octets b) e in
      let keys : pattern_key (exact (reverse a)) ≡ pattern_key (exact (reverse b)) = turned a ∙ ap (λ (xs : List ℕ). entry_key xs false) octets ∙ sym (turned b) in
      let turned_same : reverse a ≡ reverse b = ap (λ (p : PlainPattern). p.base) (key_pattern (exact (reverse a)) (exact (reverse b)) keys) in
      sym (reverse-reverse a) ∙ ap (λ (name : Name). reverse name) turned_same ∙ reverse-reverse b

  -- patterns at one place are one
  pub same_pattern : (p q : PlainPattern) → is_at (pattern_order p) q ≡ true → p ≡ q
  same_pattern p q h =
      let tie : pattern_order p q ≡ Equal = tied_if (pattern_order p q) h in
      let rest = then_second (bool_cmp p.wild q.wild) _ tie in
      let wild : p.wild ≡ q.wild = same_bool p.wild q.wild (then_first _ _ tie) in
      let octets : slice_cmp nat_cmp (name_octets p.base) (name_octets q.base) ≡ Equal = then_second (nat_cmp (length q.base) (length p.base)) _ rest in
      let base : p.base ≡ q.base = same_written p.base q.base (exact_bytes (name_octets p.base) (name_octets q.base) octets) in
      λ i. record { base = base i; wild = wild i }

  same_key : (a b : List ℕ) → is_at (key_order a) b ≡ true → a ≡ b
  same_key a b h = exact_bytes a b (tied_if (key_order a b) h)

  at_pattern : (p q : PlainPattern) → is_at (pattern_order p) q ≡ is_at (key_order (pattern_key p)) (pattern_key q)
  at_pattern p q =
      both_ways _ _
      (λ h. ap (λ r. is_at (key_order (pattern_key p)) (pattern_key r)) (sym (same_pattern p q h)) ∙ at_itself key_total (pattern_key p))
      (λ h. ap (λ r. is_at (pattern_order p) r) (sym (key_pattern p q (same_key (pattern_key p) (pattern_key q) h))) ∙ at_itself pattern_total p)

  pub at_key : (p : PlainPattern) (key : List ℕ) → IsPatternKey key → is_at (pattern_order p) (pattern_in key) ≡ is_at (key_order (pattern_key p)) key
  at_key p key is = at_pattern p (pattern_in key) ∙ ap (λ k. is_at (key_order (pattern_key p)) k) (sym is.same)
