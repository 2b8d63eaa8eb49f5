-- Of the patterns that match a name, that of the key that comes last comes first in order of precedence.
use Rattle.std.proofs.Common.{◌≡◌, ℕ, ◌+◌, ◌<◌, Bool, true, false, IsTrue, ◌↔◌, List, [], ◌∷◌, ◌++◌, length, refl, sym, ap, ◌∙◌, arith, length-append, nat_cmp}
use Rattle.std.proofs.lemmas.Cmp.{nat_cmp_total}
use Rattle.std.specs.Cmp.{nat_cmp_is, tied_itself}
use Rattle.std.specs.Cmp.Lexicographic.{slice_cmp}
use Rattle.std.specs.Ordering.{bool_cmp, ordering_then}
use Rattle.std.specs.declared.cmp.Ordering.{Ordering}
use Rattle.std.specs.declared.cmp.Ordering.TheVariants.{Less, Equal, Greater}
use Rattle.dns_name.specs.Alike.{PlainPattern, ends_with, matches, same_name}
use Rattle.dns_name.specs.Labels.{EndsWith, Label, Name, lowered, name_octets}
use Rattle.octet_trie.specs.Fits.{fits}
use Rattle.octet_trie.specs.ListKeys.{entry_key}
use Rattle.qname_index.specs.Best.{pattern_order}
use Rattle.qname_index.specs.Key.{name_key}
use Rattle.qname_index.specs.Patterns.{pattern_in}
use Rattle.qname_index.specs.Ranked.{IsPatternKey, pattern_key}
use Rattle.qname_index.proofs.Keys.{key_begins, key_of_front}
use Rattle.qname_index.proofs.Matching.{exact_fits, exact_matches, wild_fits, wild_matches}
use Rattle.qname_index.proofs.Same.{key_order, key_total}

greater : (x y : ℕ) → y < x → nat_cmp x y ≡ Greater
greater x y h = sym (nat_cmp_is x y Greater h)

less : (x y : ℕ) → x < y → nat_cmp x y ≡ Less
less x y h = sym (nat_cmp_is x y Less h)

tied : (x y : ℕ) → x ≡ y → nat_cmp x y ≡ Equal
tied x y e = ap (nat_cmp x) (sym e) ∙ tied_itself nat_cmp_total x

not_both : (o : Ordering) → o ≡ Less → o ≡ Greater → ⊥
not_both o e f = let k : Less ≡ Greater = sym e ∙ f in cc k

not_tied : (o : Ordering) → o ≡ Less → o ≡ Equal → ⊥
not_tied o e f = let k : Less ≡ Equal = sym e ∙ f in cc k

-- behind equal octets
behind : (x y : ℕ) (a b : List ℕ) → x ≡ y → key_order ((x + 2) ∷ a) ((y + 2) ∷ b) ≡ key_order a b
behind x y a b e = ap (λ o. ordering_then o (key_order a b)) (tied (x + 2) (y + 2) (omega arith))

-- an octet comes behind the end of a key
behind_end : (x n : ℕ) (a b : List ℕ) → n < 2 → key_order ((x + 2) ∷ a) (n ∷ b) ≡ Greater
behind_end x n a b h = ap (λ o. ordering_then o (key_order a b)) (greater (x + 2) n (omega arith))

heads : (x y : ℕ) (xs ys : List ℕ) → x ∷ xs ≡ y ∷ ys → x ≡ y
heads x y xs ys e = cc e

tails : (x y : ℕ) (xs ys : List ℕ) → x ∷ xs ≡ y ∷ ys → xs ≡ ys
tails x y xs ys e = cc e

-- the exact entry of the octets comes behind the wild one of some of them
exact_last : (q b : List ℕ) (o : ℕ) (rest : List ℕ) → b ++ o ∷ rest ≡ q → key_order (entry_key q false) (entry_key b true) ≡ Greater
exact_last [] [] o rest e = cc e
exact_last [] (y ∷ b) o rest e = cc e
exact_last (x ∷ q) [] o rest e = behind_end x 1 (entry_key q false) [] (omega arith)
exact_last (x ∷ q) (y ∷ b) o rest e =
    behind x y (entry_key q false) (entry_key b true) (sym (heads y x (b ++ o ∷ rest) q e)) ∙ exact_last q b o rest (tails y x (b ++ o ∷ rest) q e)

-- of two wild entries of some of the octets the one that comes first has fewer
wild_last : (q a b ra rb : List ℕ) → a ++ ra ≡ q → b ++ rb ≡ q → key_order (entry_key a true) (entry_key b true) ≡ Less → length a < length b
wild_last q [] [] ra rb e f h = absurd (not_tied (key_order (1 ∷ []) (1 ∷ [])) h refl)
wild_last q [] (y ∷ b) ra rb e f h = omega arith
wild_last q (x ∷ a) [] ra rb e f h = absurd (not_both _ h (behind_end x 1 (entry_key a true) [] (omega arith)))
wild_last [] (x ∷ a) (y ∷ b) ra rb e f h = cc e
wild_last (z ∷ q) (x ∷ a) (y ∷ b) ra rb e f h =
    let first : x ≡ z = heads x z (a ++ ra) q e in
    let second : y ≡ z = heads y z (b ++ rb) q f in
    let rest : length a < length b = wild_last q a b ra rb (tails x z (a ++ ra) q e) (tails y z (b ++ rb) q f)
    (sym (behind x y (entry_key a true) (entry_key b true) (first ∙ sym second)) ∙ h) in
    omega arith

-- of two names with which a name ends the one of the longer key has more labels
more_labels : (fa fb a b : List Label) → fa ++ a ≡ fb ++ b → length (name_key a) < length (name_key b) → length a < length b
more_labels [] fb a b e h =
    absurd (omega (arith, ap (λ n. length (name_key n)) e, ap length (key_of_front fb b), length-append (name_key b) (name_key fb)))
more_labels (x ∷ fa) [] a b e h = omega (arith, ap length e, length-append fa a)
more_labels (x ∷ fa) (y ∷ fb) a b e h =
    let rest : fa ++ a ≡ fb ++ b = cc e in more_labels fa fb a b rest h

-- what names are known by
abbrev pub AreAlike : Type 0
AreAlike = (n o : Name) → IsTrue (same_name n o) ↔ (lowered n ≡ lowered o)

abbrev pub AreWithin : Type 0
AreWithin = (n o : Name) → IsTrue (ends_with n o) ↔ EndsWith n o

module _ (name : Name) where
  wild_first : (p q : PlainPattern) → p.wild ≡ false → q.wild ≡ true → pattern_order p q ≡ Less
  wild_first p q e f = λ i. ordering_then (bool_cmp (e i) (f i)) (ordering_then (nat_cmp (length q.base) (length p.base)) (slice_cmp nat_cmp (name_octets p.base) (name_octets q.base)))

  longer_first : (p q : PlainPattern) → p.wild ≡ true → q.wild ≡ true → length q.base < length p.base → pattern_order p q ≡ Less
  longer_first p q e f lt =
      let bytes = slice_cmp nat_cmp (name_octets p.base) (name_octets q.base) in
      (λ i. ordering_then (bool_cmp (e i) (f i)) (ordering_then (nat_cmp (length q.base) (length p.base)) bytes))
      ∙ ap (λ o. ordering_then o bytes) (less (length q.base) (length p.base) lt)

  -- both keys fit, and the second comes last
  abbrev Answer : PlainPattern → PlainPattern → Type 0
  Answer p q = fits (name_key name) (pattern_key p) ≡ true → fits (name_key name) (pattern_key q) ≡ true → key_order (pattern_key q) (pattern_key p) ≡ Less → pattern_order p q ≡ Less

  by_kind : (b c : Name) (v w : Bool) → Answer (record { base = b; wild = v }) (record { base = c; wild = w })
  by_kind b c false false f g h =
      let same : name_key c ≡ name_key b = sym (exact_fits (name_key name) (name_key c) g) ∙ exact_fits (name_key name) (name_key b) f in
      absurd (not_tied _ h (ap (λ k. key_order (entry_key k false) (entry_key (name_key b) false)) same ∙ tied_itself key_total (entry_key (name_key b) false)))
  by_kind b c false true f g h = wild_first (record { base = b; wild = false }) (record { base = c; wild = true }) refl refl
  by_kind b c true false f g h =
      let part = wild_fits (name_key name) (name_key b) f in
      let whole : name_key name ≡ name_key c = exact_fits (name_key name) (name_key c) g in
      absurd (not_both _ h (ap (λ k. key_order (entry_key k false) (entry_key (name_key b) true)) (sym whole) ∙ exact_last (name_key name) (name_key b) part.0 part.1 part.2))
  by_kind b c true true f g h =
      let first = wild_fits (name_key name) (name_key b) f in
      let second = wild_fits (name_key name) (name_key c) g in
      let longer : length (name_key c) < length (name_key b) =
      wild_last (name_key name) (name_key c) (name_key b) (second.0 ∷ second.1) (first.0 ∷ first.1) second.2 first.2 h in
      let front = key_begins name b (first.0 ∷ first.1) first.2 in
      let other = key_begins name c (second.0 ∷ second.1) second.2 in
      longer_first (record { base = b; wild = true }) (record { base = c; wild = true }) refl refl
      (more_labels other.0 front.0 c b (sym other.1 ∙ front.1) longer)

  pub last_first : (p q : List ℕ) → IsPatternKey p → IsPatternKey q → fits (name_key name) p ≡ true → fits (name_key name) q ≡ true → key_order q p ≡ Less → pattern_order (pattern_in p) (pattern_in q) ≡ Less
  last_first p q is iq f g h =
      let a = pattern_in p in
      let b = pattern_in q in
      by_kind a.base b.base a.wild b.wild
      (ap (fits (name_key name)) (sym is.same) ∙ f) (ap (fits (name_key name)) (sym iq.same) ∙ g)
      ((λ i. key_order (sym iq.same i) (sym is.same i)) ∙ h)

  abbrev FitsAsMatches : PlainPattern → Type 0
  FitsAsMatches p = fits (name_key name) (pattern_key p) ≡ matches p name

  -- a key fits where its pattern matches
  pub fits_is : (key : List ℕ) → IsPatternKey key → lowered name ≡ name → AreAlike → AreWithin → fits (name_key name) key ≡ matches (pattern_in key) name
  fits_is key is lower alike within =
      let p = pattern_in key in
      ap (fits (name_key name)) is.same
      ∙ elim p.wild as (λ w. FitsAsMatches (record { base = p.base; wild = w })) [
        | true ↦ wild_matches p.base name is.pattern.lower_case lower alike within
        | false ↦ exact_matches p.base name is.pattern.lower_case lower alike
      ]
