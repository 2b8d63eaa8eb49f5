-- Of the keys with which a key begins, the last one is the longest.
use Rattle.std.proofs.Common.{◌≡◌, ◌<◌, ◌⊎◌, inl, inr, Bool, true, false, cond, ◌&&◌, Option, Some, None, List, [], ◌∷◌, refl, sym, ap, ◌∙◌, subst, arith, is_eq}
use Rattle.std.proofs.lemmas.Bool.{cases_lt}
use Rattle.std.specs.BTreeMap.{is_at}
use Rattle.std.specs.Cmp.{tied_itself}
use Rattle.std.specs.List.{AllByRecursion}
use Rattle.std.specs.List.Sorted.{IsStrictlySortedBy}
use Rattle.std.specs.Map.{keys_of, lookup}
use Rattle.std.specs.Ordering.{ordering_reverse}
use Rattle.std.specs.declared.cmp.Ordering.{Ordering}
use Rattle.std.specs.declared.cmp.Ordering.TheVariants.{Less, Equal, Greater}
use Rattle.trie_keys.specs.Keys.{Keys, KeyLaws, begins}
use Rattle.trie_keys.specs.Scan.{last_where, option_else}
use Rattle.prefix_index.specs.Walk.{is_hit, last_hit}

some_same : {A : Type 0} (x y : A) → Some x ≡ Some y → x ≡ y
some_same x y e = cc e

no_some : {A : Type 0} (x : A) → None ≡ Some x → ⊥
no_some x e = cc e

first_true : (a b : Bool) → (a && b) ≡ true → a ≡ true
first_true true b e = refl
first_true false b e = e

-- the last entry is among them, and what is so of all is so of it
module _ {K V : Type 0} (test : K × V → Bool) where
  pub last_all : (P : K × V → Type 0) (es : List (K × V)) (e : K × V) → AllByRecursion P es → last_where test es ≡ Some e → P e
  last_all P [] e all h = absurd (no_some e h)
  last_all P (x ∷ xs) e all h =
      elim (last_where test xs) as (λ o. last_where test xs ≡ o → option_else o (cond (test x) (Some x) None) ≡ Some e → P e) [
        | None ↦ λ _ h. elim (test x) as (λ b. cond b (Some x) None ≡ Some e → P e) [ true ↦ λ h. subst P (some_same x e h) all.0 | false ↦ λ h. absurd (no_some e h) ] h
        | Some y ↦ λ k h. last_all P xs e all.1 (k ∙ h)
      ] refl h

  pub last_passes : (es : List (K × V)) (e : K × V) → last_where test es ≡ Some e → test e ≡ true
  last_passes [] e h = absurd (no_some e h)
  last_passes (x ∷ xs) e h =
      elim (last_where test xs) as (λ o. last_where test xs ≡ o → option_else o (cond (test x) (Some x) None) ≡ Some e → test e ≡ true) [
        | None ↦ λ _ h. elim (test x) as (λ b. test x ≡ b → cond b (Some x) None ≡ Some e → test e ≡ true) [ true ↦ λ t h. ap test (sym (some_same x e h)) ∙ t | false ↦ λ _ h. absurd (no_some e h) ] refl h
        | Some y ↦ λ k h. last_passes xs e (k ∙ h)
      ] refl h

  none_left : (o : Option (K × V)) (b : Bool) (x : K × V) → option_else o (cond b (Some x) None) ≡ None → (o ≡ None) × (b ≡ false)
  none_left None true x h = absurd (no_some x (sym h))
  none_left None false x h = (refl, refl)
  none_left (Some y) b x h = absurd (no_some y (sym h))

  pub last_none_all : (es : List (K × V)) → last_where test es ≡ None → AllByRecursion (λ e. test e ≡ false) es
  last_none_all [] h = tt
  last_none_all (x ∷ xs) h = let k = none_left (last_where test xs) (test x) x h in (k.1, last_none_all xs k.0)

module _ {K : Type 0} (keys : Keys K) (laws : KeyLaws keys) where
  turned : (a b : K) → keys.order a b ≡ Less → keys.order b a ≡ Greater
  turned a b e = laws.total.antisymm b a ∙ ap ordering_reverse e

  not_both : (o : Ordering) → o ≡ Less → o ≡ Greater → ⊥
  not_both o e f = let k : Less ≡ Greater = sym e ∙ f in cc k

  not_itself : (o : Ordering) → o ≡ Less → o ≡ Equal → ⊥
  not_itself o e f = let k : Less ≡ Equal = sym e ∙ f in cc k

  agrees : (a key : K) → begins keys a key ≡ true → keys.agree (keys.len a) a key ≡ true
  agrees a key h = first_true _ _ h

  -- of two keys with which a key begins, the one that comes first is shorter
  pub shorter : (a b key : K) → keys.valid a ≡ true → keys.valid b ≡ true → begins keys a key ≡ true → begins keys b key ≡ true → keys.order a b ≡ Less → keys.len a < keys.len b
  shorter a b key va vb ha hb less = elim (cases_lt (keys.len a) (keys.len b)) as (λ _. keys.len a < keys.len b) [
    | inl lt ↦ lt
    | inr ge ↦
        let here : keys.agree (keys.len b) b a ≡ true = laws.along (keys.len b) b key a (agrees b key hb) (laws.back (keys.len b) a key (laws.fewer (keys.len b) (keys.len a) a key ge (agrees a key ha))) in
        elim (cases_lt (keys.len b) (keys.len a)) as (λ _. keys.len a < keys.len b) [
          | inl lt ↦ absurd (not_both (keys.order a b) less (turned b a (laws.shorter_first b a vb here lt)))
          | inr le ↦
              let len : keys.len b ≡ keys.len a = omega arith in
              let same : b ≡ a = laws.whole b a vb va len here in
              absurd (not_itself (keys.order a b) less (ap (keys.order a) same ∙ tied_itself laws.total a))
        ]
  ]

  module _ {V : Type 0} where
    found_behind : (q : K) (x : K × V) (xs : List (K × V)) → keys.order x.0 q ≡ Less → lookup (is_at (keys.order q)) (x ∷ xs) ≡ lookup (is_at (keys.order q)) xs
    found_behind q x xs less = ap (λ o. cond (is_eq o) (Some x.1) (lookup (is_at (keys.order q)) xs)) (turned x.0 q less)

    -- an entry at which a look-up of the key would stop has a shorter key than this one, or this key
    abbrev pub IsBelow : (V → Bool) → K → K → K × V → Type 0
    IsBelow acts key e x = is_hit keys acts key x ≡ true → (keys.len x.0 < keys.len e) ⊎ (x.0 ≡ e)

    all_false : (acts : V → Bool) (key e : K) (xs : List (K × V)) → AllByRecursion (λ x. is_hit keys acts key x ≡ false) xs → AllByRecursion (λ x. IsBelow acts key e x) xs
    all_false acts key e [] all = tt
    all_false acts key e (x ∷ xs) all = ((λ h. let k : true ≡ false = sym h ∙ all.0 in absurd (cc k)), all_false acts key e xs all.1)

    to_entries : (P : K → Type 0) (xs : List (K × V)) → AllByRecursion P (keys_of xs) → AllByRecursion (λ x. P x.0) xs
    to_entries P [] all = tt
    to_entries P (x ∷ xs) all = (all.0, to_entries P xs all.1)

    pub last_found : (acts : V → Bool) (key : K) (es : List (K × V)) (e : K × V) → AllByRecursion (λ x. keys.valid x.0 ≡ true) es → IsStrictlySortedBy keys.order (keys_of es) → last_hit keys acts key es ≡ Some e → (lookup (is_at (keys.order e.0)) es ≡ Some e.1) × AllByRecursion (λ x. IsBelow acts key e.0 x) es
    unfolding IsStrictlySortedBy
    last_found acts key [] e valid sorted h = absurd (no_some e h)
    last_found acts key (x ∷ xs) e valid sorted h =
        let test : K × V → Bool = is_hit keys acts key in
        elim (last_where test xs) as (λ o. last_where test xs ≡ o → option_else o (cond (test x) (Some x) None) ≡ Some e → (lookup (is_at (keys.order e.0)) (x ∷ xs) ≡ Some e.1) × AllByRecursion (λ y. IsBelow acts key e.0 y) (x ∷ xs)) [
          | None ↦ λ none h. elim (test x) as (λ b. cond b (Some x) None ≡ Some e → (lookup (is_at (keys.order e.0)) (x ∷ xs) ≡ Some e.1) × AllByRecursion (λ y. IsBelow acts key e.0 y) (x ∷ xs)) [
            | true ↦ λ h.
                let same : x ≡ e = some_same x e h in
                let key_same : x.0 ≡ e.0 = ap (λ (y : K × V). y.0) same in
                let tie : keys.order e.0 x.0 ≡ Equal = ap (keys.order e.0) key_same ∙ tied_itself laws.total e.0 in
                (ap (λ o. cond (is_eq o) (Some x.1) (lookup (is_at (keys.order e.0)) xs)) tie ∙ ap (λ (y : K × V). Some y.1) same, ((λ _. inr key_same), all_false acts key e.0 xs (last_none_all test xs none)))
            | false ↦ λ h. absurd (no_some e h)
          ] h
          | Some y ↦ λ k h.
              let there : last_where test xs ≡ Some e = k ∙ h in
              let rest = last_found acts key xs e valid.1 sorted.1 there in
              let less : keys.order x.0 e.0 ≡ Less = last_all test (λ y. keys.order x.0 y.0 ≡ Less) xs e (to_entries (λ y. keys.order x.0 y ≡ Less) xs sorted.0) there in
              let valid_e : keys.valid e.0 ≡ true = last_all test (λ y. keys.valid y.0 ≡ true) xs e valid.1 there in
              let passes : begins keys e.0 key ≡ true = first_true _ _ (last_passes test xs e there) in
              (found_behind e.0 x xs less ∙ rest.0, ((λ b. inl (shorter x.0 e.0 key valid.0 valid_e (first_true _ _ b) passes less)), rest.1))
        ] refl h
