-- Entries in the order of their keys, and what those between two others have in common with them.
use Rattle.std.proofs.Common.{◌≡◌, ℕ, zero, suc, ◌+◌, ◌-◌, ◌<◌, ◌≤◌, Bool, true, false, List, [], ◌∷◌, ◌++◌, length, take, drop, get_or, map, refl, sym, ap, ◌∙◌, subst, arith, length-drop}
use Rattle.std.proofs.lemmas.List.{take_all, take_more, take-append-drop, length-take-le}
use Rattle.std.specs.Cmp.{ranks, nat_cmp_is, tied_itself}
use Rattle.std.specs.Cmp.Lexicographic.{slice_cmp}
use Rattle.std.specs.List.{AllByRecursion}
use Rattle.std.specs.List.Sorted.{IsStrictlySortedBy}
use Rattle.std.specs.Map.{keys_of}
use Rattle.std.specs.Ordering.{MatchOrdering, nat_cmp, bool_cmp, is_lt, ordering_then}
use Rattle.std.specs.declared.cmp.Ordering.{Ordering}
use Rattle.std.specs.declared.cmp.Ordering.TheVariants.{Less, Equal, Greater}
use Rattle.octet_trie.specs.ListKeys.{octet_keys, entry_key, end_symbol}
use Rattle.octet_trie.specs.Listed.{AreInOrder, AreListed}
use Rattle.octet_trie.specs.Trie.{found_entry}
use Rattle.octet_trie.specs.declared.trie.OctetFound.{OctetFound}
use Rattle.octet_trie.proofs.ListLaws.{list_laws}
use Rattle.octet_trie.proofs.Stretches.{stretch_at}
use Rattle.trie_keys.proofs.Entries.{all_append, all_first, all_second}

-- ---- the keys of two entries

abbrev order : List ℕ → List ℕ → Ordering
order = octet_keys.order

same_rank : (x y : ℕ) (r : Ordering) → nat_cmp x y ≡ r → nat_cmp (x + 2) (y + 2) ≡ r
same_rank x y Less e =
    let fact : x < y = subst (λ r. MatchOrdering r (x < y) (x ≡ y) (y < x)) e (ranks x y) in
    sym (nat_cmp_is (x + 2) (y + 2) Less (omega (arith, fact)))
same_rank x y Equal e =
    let fact : x ≡ y = subst (λ r. MatchOrdering r (x < y) (x ≡ y) (y < x)) e (ranks x y) in
    sym (nat_cmp_is (x + 2) (y + 2) Equal (omega (arith, fact)))
same_rank x y Greater e =
    let fact : y < x = subst (λ r. MatchOrdering r (x < y) (x ≡ y) (y < x)) e (ranks x y) in
    sym (nat_cmp_is (x + 2) (y + 2) Greater (omega (arith, fact)))

then_assoc : (a b c : Ordering) → ordering_then a (ordering_then b c) ≡ ordering_then (ordering_then a b) c
then_assoc Less b c = refl
then_assoc Equal b c = refl
then_assoc Greater b c = refl

ends : (w v : Bool) → ordering_then (nat_cmp (end_symbol w) (end_symbol v)) Equal ≡ bool_cmp w v
ends false false = refl
ends false true = refl
ends true false = refl
ends true true = refl

end_first : (w : Bool) (y : ℕ) → end_symbol w < y + 2
end_first true y = omega arith
end_first false y = omega arith

pub entry_order : (a b : List ℕ) (w v : Bool) → slice_cmp nat_cmp (entry_key a w) (entry_key b v) ≡ ordering_then (slice_cmp nat_cmp a b) (bool_cmp w v)
entry_order [] [] w v = ends w v
entry_order [] (y ∷ ys) w v = ap (λ o. ordering_then o (slice_cmp nat_cmp [] (entry_key ys v))) (sym (nat_cmp_is (end_symbol w) (y + 2) Less (end_first w y)))
entry_order (x ∷ xs) [] w v = ap (λ o. ordering_then o (slice_cmp nat_cmp (entry_key xs w) [])) (sym (nat_cmp_is (x + 2) (end_symbol v) Greater (end_first v x)))
entry_order (x ∷ xs) (y ∷ ys) w v =
    (λ i. ordering_then (same_rank x y (nat_cmp x y) refl i) (entry_order xs ys w v i))
    ∙ then_assoc (nat_cmp x y) (slice_cmp nat_cmp xs ys) (bool_cmp w v)

pub is_less : (o : Ordering) → is_lt o ≡ true → o ≡ Less
is_less Less e = refl
is_less Equal e = cc e
is_less Greater e = cc e

-- the octets of one key don't come behind those of the other
abbrev pub NotBehind : List ℕ → List ℕ → Type 0
NotBehind a b = slice_cmp nat_cmp a b ≡ Greater → ⊥

pub not_behind : (a b : List ℕ) (w v : Bool) → slice_cmp nat_cmp (entry_key a w) (entry_key b v) ≡ Less → NotBehind a b
not_behind a b w v lt gt =
    let e : ordering_then Greater (bool_cmp w v) ≡ Less = ap (λ o. ordering_then o (bool_cmp w v)) (sym gt) ∙ sym (entry_order a b w v) ∙ lt in
    cc e

itself_not_behind : (a : List ℕ) → NotBehind a a
itself_not_behind a gt =
    let e : Equal ≡ Greater = sym (tied_itself (list_laws 255).total a) ∙ gt in
    cc e

-- ---- what stands between two keys begins with what both begin with

at_most : (x y : ℕ) (rest : Ordering) → (ordering_then (nat_cmp x y) rest ≡ Greater → ⊥) → x ≤ y
at_most x y rest h =
    let not : y < x → ⊥ = λ lt. h (ap (λ o. ordering_then o rest) (sym (nat_cmp_is x y Greater lt))) in
    omega (arith, not)

behind_heads : (x y : ℕ) (xs ys : List ℕ) → x ≡ y → NotBehind (x ∷ xs) (y ∷ ys) → NotBehind xs ys
behind_heads x y xs ys e h gt = h (ap (λ o. ordering_then o (slice_cmp nat_cmp xs ys)) (sym (nat_cmp_is x y Equal e)) ∙ gt)

heads : (x y : ℕ) (xs ys : List ℕ) → x ∷ xs ≡ y ∷ ys → x ≡ y
heads x y xs ys e = cc e

tails : (x y : ℕ) (xs ys : List ℕ) → x ∷ xs ≡ y ∷ ys → xs ≡ ys
tails x y xs ys e = cc e

pub alike_between : (n : ℕ) (a x b : List ℕ) → NotBehind a x → NotBehind x b → take n a ≡ take n b → n ≤ length a → take n x ≡ take n a
alike_between zero a x b p q e h = refl
alike_between (suc n) [] x b p q e h = absurd (omega arith)
alike_between (suc n) (a ∷ as') x [] p q e h = cc e
alike_between (suc n) (a ∷ as') [] (b ∷ bs) p q e h = absurd (p refl)
alike_between (suc n) (a ∷ as') (x ∷ xs) (b ∷ bs) p q e h =
    let ab : a ≡ b = heads a b _ _ e in
    let ax : a ≤ x = at_most a x (slice_cmp nat_cmp as' xs) p in
    let xb : x ≤ b = at_most x b (slice_cmp nat_cmp xs bs) q in
    let same : x ≡ a = omega (arith, ab, ax, xb) in
    let rest = alike_between n as' xs bs (behind_heads a x as' xs (sym same) p) (behind_heads x b xs bs (same ∙ ab) q) (tails a b _ _ e) (omega (arith, h)) in
    λ i. same i ∷ rest i

-- ---- lists in order

module _ {K : Type 0} (R : K → K → Ordering) where
  sorted_first : (xs ys : List K) → IsStrictlySortedBy R (xs ++ ys) → IsStrictlySortedBy R xs
  unfolding IsStrictlySortedBy
  sorted_first [] ys s = tt
  sorted_first (x ∷ xs) ys s = (all_first (λ y. R x y ≡ Less) xs ys s.0, sorted_first xs ys s.1)

  sorted_second : (xs ys : List K) → IsStrictlySortedBy R (xs ++ ys) → IsStrictlySortedBy R ys
  unfolding IsStrictlySortedBy
  sorted_second [] ys s = s
  sorted_second (x ∷ xs) ys s = sorted_second xs ys s.1

module _ {X : Type 0} (P : X → Type 0) where
  pub all_take : (n : ℕ) (xs : List X) → AllByRecursion P xs → AllByRecursion P (take n xs)
  all_take n xs all = all_first P (take n xs) (drop n xs) (subst (λ ys. AllByRecursion P ys) (sym (take-append-drop n xs)) all)

  pub all_drop : (n : ℕ) (xs : List X) → AllByRecursion P xs → AllByRecursion P (drop n xs)
  all_drop n xs all = all_second P (take n xs) (drop n xs) (subst (λ ys. AllByRecursion P ys) (sym (take-append-drop n xs)) all)

  pub all_at : (xs : List X) (k : ℕ) (d : X) → k < length xs → AllByRecursion P xs → P (get_or xs k d)
  all_at [] k d h all = absurd (omega arith)
  all_at (x ∷ xs) zero d h all = all.0
  all_at (x ∷ xs) (suc k) d h all = all_at xs k d (omega (arith, h)) all.1

  pub all_each : (xs : List X) (d : X) → ((k : ℕ) → k < length xs → P (get_or xs k d)) → AllByRecursion P xs
  all_each [] d each = tt
  all_each (x ∷ xs) d each = (each 0 (omega arith), all_each xs d (λ k h. each (suc k) (omega (arith, h))))

module _ {N M : Type 0} where
  abbrev keys : List (OctetFound N M) → List (List ℕ)
  keys es = keys_of (map found_entry es)

  abbrev key : OctetFound N M → List ℕ
  key e = (found_entry e).0

  keys_append : (xs ys : List (OctetFound N M)) → keys (xs ++ ys) ≡ keys xs ++ keys ys
  keys_append [] ys = refl
  keys_append (x ∷ xs) ys = ap (λ ks. key x ∷ ks) (keys_append xs ys)

  -- one more entry
  one_later : (xs : List (OctetFound N M)) (a b : OctetFound N M) → AreInOrder (xs ++ a ∷ []) → order (key a) (key b) ≡ Less → AreInOrder ((xs ++ a ∷ []) ++ b ∷ [])
  unfolding IsStrictlySortedBy
  one_later [] a b s lt = ((lt, tt), (tt, tt))
  one_later (x ∷ xs) a b s lt =
      let before : AllByRecursion (λ k. order (key x) k ≡ Less) (keys xs ++ key a ∷ []) = subst (λ ks. AllByRecursion (λ k. order (key x) k ≡ Less) ks) (keys_append xs (a ∷ [])) s.0 in
      let first : order (key x) (key a) ≡ Less = (all_second (λ k. order (key x) k ≡ Less) (keys xs) (key a ∷ []) before).0 in
      let next : order (key x) (key b) ≡ Less = (list_laws 255).total.trans (key x) (key a) (key b) first lt in (
        subst (λ ks. AllByRecursion (λ k. order (key x) k ≡ Less) ks) (sym (keys_append (xs ++ a ∷ []) (b ∷ [])))
            (all_append (λ k. order (key x) k ≡ Less) (keys (xs ++ a ∷ [])) (key b ∷ []) s.0 (next, tt)),
        one_later xs a b s.1 lt,
      )

  pub in_order_more : (es : List (OctetFound N M)) (i before : ℕ) (x y : OctetFound N M) → i ≡ before + 1 → i < length es → x ≡ get_or es before x → y ≡ get_or es i y
      → AreInOrder (take i es) → order (key x) (key y) ≡ Less → AreInOrder (take (i + 1) es)
  in_order_more es i before x y e h ex ey s lt =
      let front : take i es ≡ take before es ++ x ∷ [] = ap (λ k. take k es) e ∙ take_more es before x (omega (arith, e, h)) ∙ ap (λ z. take before es ++ z ∷ []) (sym ex) in
      let all : take (i + 1) es ≡ (take before es ++ x ∷ []) ++ y ∷ [] = take_more es i y h ∙ (λ j. front j ++ sym ey j ∷ []) in
      subst (λ xs. AreInOrder xs) (sym all) (one_later (take before es) x y (subst (λ xs. AreInOrder xs) front s) lt)

  pub in_order_few : (es : List (OctetFound N M)) → AreInOrder (take 1 es)
  unfolding IsStrictlySortedBy
  in_order_few [] = tt
  in_order_few (e ∷ es) = (tt, tt)

  pub in_order_all : (es : List (OctetFound N M)) (i : ℕ) → length es ≤ i → AreInOrder (take i es) → AreInOrder es
  in_order_all es i h s = subst (λ xs. AreInOrder xs) (take_all i es h) s

  -- parts of them
  in_order_take : (n : ℕ) (es : List (OctetFound N M)) → AreInOrder es → AreInOrder (take n es)
  in_order_take n es s =
      sorted_first order (keys (take n es)) (keys (drop n es))
      (subst (λ ks. IsStrictlySortedBy order ks) (ap keys (sym (take-append-drop n es)) ∙ keys_append (take n es) (drop n es)) s)

  in_order_drop : (n : ℕ) (es : List (OctetFound N M)) → AreInOrder es → AreInOrder (drop n es)
  in_order_drop n es s =
      sorted_second order (keys (take n es)) (keys (drop n es))
      (subst (λ ks. IsStrictlySortedBy order ks) (ap keys (sym (take-append-drop n es)) ∙ keys_append (take n es) (drop n es)) s)

  pub listed_part : (present : M → Bool) (es : List (OctetFound N M)) (from n : ℕ) → AreListed present es → AreListed present (take n (drop from es))
  listed_part present es from n l = record {
    short = all_take (λ e. length e.key.now ≤ 254) n (drop from es) (all_drop (λ e. length e.key.now ≤ 254) from es l.short);
    present_all = all_take (λ e. present e.value.mark ≡ true) n (drop from es) (all_drop (λ e. present e.value.mark ≡ true) from es l.present_all);
    in_order = in_order_take n (drop from es) (in_order_drop from es l.in_order);
  }

  -- ---- entries by number

  first_behind : (e : OctetFound N M) (es : List (OctetFound N M)) (k : ℕ) (d : OctetFound N M) → AllByRecursion (λ y. order (key e) y ≡ Less) (keys es) → k < length es → NotBehind e.key.now (get_or es k d).key.now
  first_behind e [] k d all h = absurd (omega arith)
  first_behind e (x ∷ es) zero d all h = not_behind e.key.now x.key.now e.wild x.wild all.0
  first_behind e (x ∷ es) (suc k) d all h = first_behind e es k d all.1 (omega (arith, h))

  pub none_behind : (es : List (OctetFound N M)) (i j : ℕ) (d : OctetFound N M) → AreInOrder es → i ≤ j → j < length es → NotBehind (get_or es i d).key.now (get_or es j d).key.now
  unfolding IsStrictlySortedBy
  none_behind [] i j d s le h = absurd (omega arith)
  none_behind (e ∷ es) zero zero d s le h = itself_not_behind e.key.now
  none_behind (e ∷ es) zero (suc j) d s le h = first_behind e es j d s.0 (omega (arith, h))
  none_behind (e ∷ es) (suc i) zero d s le h = absurd (omega (arith, le))
  none_behind (e ∷ es) (suc i) (suc j) d s le h = none_behind es i j d s.1 (omega (arith, le)) (omega (arith, h))

  abbrev octets_at : List (OctetFound N M) → ℕ → OctetFound N M → List ℕ
  octets_at es k d = (get_or es k d).key.now

  -- from one entry up to another, all begin as these two do
  pub stretch_alike : (es : List (OctetFound N M)) (i j n count : ℕ) (d : OctetFound N M) (top : List ℕ) → AreInOrder es → i ≤ j → j < length es → count ≡ j + 1 - i
      → n ≤ length (octets_at es i d) → take n (octets_at es i d) ≡ top → take n (octets_at es j d) ≡ top → AllByRecursion (λ e. take n e.key.now ≡ top) (take count (drop i es))
  stretch_alike es i j n count d top s le h ec long ei ej =
      all_each (λ (e : OctetFound N M). take n e.key.now ≡ top) (take count (drop i es)) d (λ k lt.
      let few : k < count = omega (arith, lt, ec, length-drop i es, length-take-le count (drop i es) (omega (arith, ec, h, le, length-drop i es))) in
      let same : get_or (take count (drop i es)) k d ≡ get_or es (i + k) d = stretch_at es i count k d few in
      ap (λ (e : OctetFound N M). take n e.key.now) same
      ∙ alike_between n (octets_at es i d) (octets_at es (i + k) d) (octets_at es j d)
      (none_behind es i (i + k) d s (omega arith) (omega (arith, few, ec, h)))
      (none_behind es (i + k) j d s (omega (arith, few, ec)) h)
      (ei ∙ sym ej) long
      ∙ ei)
