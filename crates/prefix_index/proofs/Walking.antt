-- A walk finds what a scan over the entries finds.
use Rattle.std.proofs.Common.{◌≡◌, ℕ, zero, suc, ◌+◌, ◌<◌, ◌≤◌, Bool, true, false, not, ◌&&◌, nat_lt, cond, List, ◌++◌, Option, Some, None, inl, inr, refl, sym, ap, ◌∙◌, subst, arith, append-nil}
use Rattle.std.proofs.lemmas.Bool.Decides.{nat_tests}
use Rattle.trie_keys.specs.Keys.{Keys, KeyLaws, Under, Begins, begins}
use Rattle.trie_keys.specs.Scan.{option_else, own}
use Rattle.trie_keys.proofs.Scan.{else_none, last_append, last_none}
use Rattle.prefix_index.specs.PlainNode.{PlainNode}
use Rattle.prefix_index.specs.Nodes.{Sub, subs_of, stands, IsKid, IsAt}
use Rattle.prefix_index.specs.Walk.{depth, depth_of, is_hit, last_hit, own_hit}
use Rattle.trie_keys.proofs.Entries.{all_map}
use Rattle.trie_keys.proofs.Beginning.{AllUnder}
use Rattle.prefix_index.proofs.Numbers.{of_none}
use Rattle.prefix_index.proofs.Putting.{listed, listed_at, begins_at}

first_true : (a b : Bool) → (a && b) ≡ true → a ≡ true
first_true true b e = refl
first_true false b e = e

second_true : (a b : Bool) → (a && b) ≡ true → b ≡ true
second_true true b e = e
second_true false b e = cc e

not_less : (x y : ℕ) → not (nat_lt x y) ≡ true → y ≤ x
not_less x y e = grind (arith, nat_tests)

never : (b : Bool) → (b ≡ true → ⊥) → b ≡ false
never true h = absurd (h refl)
never false h = refl

by_kid : (kid n d old mid new width here : ℕ) → here ≡ n → n ≤ width → ((kid ≡ 0 → ⊥) → n < d) → mid ≡ old + 1 → (kid ≡ 0 → new ≡ mid) → new + d ≤ mid + (width + 1) → new + here ≤ old + (width + 1)
by_kid zero n d old mid new width here e narrow deeper one none cost = let same : new ≡ mid = none refl in omega arith
by_kid (suc kid) n d old mid new width here e narrow deeper one none cost = let lt : n < d = deeper (λ z. omega (arith, z)) in omega arith

and_false : (a b : Bool) → a ≡ false → (a && b) ≡ false
and_false true b e = cc e
and_false false b e = refl

and_true : (a b : Bool) → a ≡ true → (a && b) ≡ b
and_true true b e = refl
and_true false b e = cc e

module _ {K : Type 0} (keys : Keys K) (laws : KeyLaws keys) where
  pub begins_agree : (top key : K) → begins keys top key ≡ true → keys.agree (keys.len top) top key ≡ true
  begins_agree top key e = first_true _ _ e

  pub begins_long : (top key : K) → begins keys top key ≡ true → keys.len top ≤ keys.len key
  begins_long top key e = not_less (keys.len key) (keys.len top) (second_true (keys.agree (keys.len top) top key) _ e)

  enough : (x y : ℕ) → y ≤ x → not (nat_lt x y) ≡ true
  enough x y h = grind (arith, nat_tests)

  does_begin : (top key : K) → keys.agree (keys.len top) top key ≡ true → keys.len top ≤ keys.len key → begins keys top key ≡ true
  does_begin top key agrees long = ap (λ b. b && not (nat_lt (keys.len key) (keys.len top))) agrees ∙ enough (keys.len key) (keys.len top) long

  -- a key with another bit behind the top
  other_side : (top key e : K) (s t : ℕ) → (s ≡ t → ⊥) → keys.symbol key (keys.len top) ≡ t → Under keys top s e → begins keys e key ≡ false
  other_side top key e s t apart next u = never (begins keys e key) (λ b.
      apart (sym u.next ∙ laws.symbols_agree (keys.len top) e key (laws.fewer (keys.len top + 1) (keys.len e) e key (omega (arith, u.longer)) (begins_agree e key b)) ∙ next))

  -- a key that is no longer than the top
  too_long : (top key e : K) (s : ℕ) → keys.len key ≤ keys.len top → Under keys top s e → begins keys e key ≡ false
  too_long top key e s short u = never (begins keys e key) (λ b. omega (arith, begins_long e key b, u.longer))

  -- a key that does not begin with the top
  elsewhere : (top key e : K) (n : ℕ) → n < keys.len top → (n < keys.len top → n < keys.len key → keys.symbol top n ≡ keys.symbol key n → ⊥) → Begins keys top e → begins keys e key ≡ false
  elsewhere top key e n short differ w = never (begins keys e key) (λ b.
      let long : keys.len e ≤ keys.len key = begins_long e key b in
      let both : keys.agree (keys.len top) top key ≡ true = laws.along (keys.len top) top e key w.agrees (laws.fewer (keys.len top) (keys.len e) e key w.long (begins_agree e key b)) in
      differ short (omega (arith, w.long)) (laws.symbols_agree n top key (laws.fewer (n + 1) (keys.len top) top key (omega arith) both)))

module _ {K V : Type 0} (keys : Keys K) (laws : KeyLaws keys) (acts : V → Bool) where
  abbrev scan : K → List (K × V) → Option (K × V)
  scan key es = last_hit keys acts key es

  no_hit : (key : K) (e : K × V) → begins keys e.0 key ≡ false → is_hit keys acts key e ≡ false
  no_hit key e h = and_false (begins keys e.0 key) (acts e.1) h

  own_last : (top key : K) (value : Option V) → begins keys top key ≡ true → scan key (own top value) ≡ own_hit acts top value
  own_last top key None e = refl
  own_last top key (Some v) e = ap (λ b. cond b (Some (top, v)) None) (and_true (begins keys top key) (acts v) e)

  pub walk_none : (nodes : List (PlainNode K V)) (key : K) → scan key (listed keys laws nodes 0) ≡ None
  walk_none nodes key = ap (λ (s : Sub K V). scan key s.list) (of_none keys nodes)

  pub walk_away : (nodes : List (PlainNode K V)) (at : ℕ) (n : PlainNode K V) (key : K) (common : ℕ) → IsAt keys nodes at n → common < keys.len n.key → (common < keys.len n.key → common < keys.len key → keys.symbol n.key common ≡ keys.symbol key common → ⊥) → scan key (listed keys laws nodes at) ≡ None
  walk_away nodes at n key common is short differ =
      last_none (is_hit keys acts key) (listed keys laws nodes at)
      (all_map (λ e. Begins keys n.key e.0) (λ e. is_hit keys acts key e ≡ false) (listed keys laws nodes at) (λ e w. no_hit key e (elsewhere keys laws n.key key e.0 common short differ w)) (begins_at keys laws nodes at n is))

  -- the entry of the node itself comes before those under it
  three : (top key : K) (value : Option V) (zeros ones : List (K × V)) → begins keys top key ≡ true → scan key (own top value ++ (zeros ++ ones)) ≡ option_else (option_else (scan key ones) (scan key zeros)) (own_hit acts top value)
  three top key value zeros ones here =
      last_append (is_hit keys acts key) (own top value) (zeros ++ ones)
      ∙ ap (λ o. option_else o (scan key (own top value))) (last_append (is_hit keys acts key) zeros ones)
      ∙ ap (λ o. option_else (option_else (scan key ones) (scan key zeros)) o) (own_last top key value here)

  none_side : (top key : K) (es : List (K × V)) (s t : ℕ) → (s ≡ t → ⊥) → keys.symbol key (keys.len top) ≡ t → AllUnder keys laws top s es → scan key es ≡ None
  none_side top key es s t apart next all = last_none (is_hit keys acts key) es (all_map (λ e. Under keys top s e.0) (λ e. is_hit keys acts key e ≡ false) es (λ e u. no_hit key e (other_side keys laws top key e.0 s t apart next u)) all)

  none_longer : (top key : K) (es : List (K × V)) (s : ℕ) → keys.len key ≤ keys.len top → AllUnder keys laws top s es → scan key es ≡ None
  none_longer top key es s short all = last_none (is_hit keys acts key) es (all_map (λ e. Under keys top s e.0) (λ e. is_hit keys acts key e ≡ false) es (λ e u. no_hit key e (too_long keys laws top key e.0 s short u)) all)

  pub walk_one : (nodes : List (PlainNode K V)) (at : ℕ) (n : PlainNode K V) (key : K) → IsAt keys nodes at n → keys.agree (keys.len n.key) n.key key ≡ true → keys.len n.key < keys.len key → keys.symbol key (keys.len n.key) ≡ 1 → scan key (listed keys laws nodes at) ≡ option_else (scan key (listed keys laws nodes n.one)) (own_hit acts n.key n.value)
  walk_one nodes at n key is agrees short next =
      ap (scan key) (listed_at keys laws nodes at n is)
      ∙ three n.key key n.value (listed keys laws nodes n.zero) (listed keys laws nodes n.one) (does_begin keys laws n.key key agrees (omega arith))
      ∙ ap (λ o. option_else (option_else (scan key (listed keys laws nodes n.one)) o) (own_hit acts n.key n.value)) (none_side n.key key (listed keys laws nodes n.zero) 0 1 (λ e. omega (arith, e)) next is.node.zero.under)
      ∙ ap (λ o. option_else o (own_hit acts n.key n.value)) (else_none (scan key (listed keys laws nodes n.one)))

  pub walk_zero : (nodes : List (PlainNode K V)) (at : ℕ) (n : PlainNode K V) (key : K) → IsAt keys nodes at n → keys.agree (keys.len n.key) n.key key ≡ true → keys.len n.key < keys.len key → keys.symbol key (keys.len n.key) ≡ 0 → scan key (listed keys laws nodes at) ≡ option_else (scan key (listed keys laws nodes n.zero)) (own_hit acts n.key n.value)
  walk_zero nodes at n key is agrees short next =
      ap (scan key) (listed_at keys laws nodes at n is)
      ∙ three n.key key n.value (listed keys laws nodes n.zero) (listed keys laws nodes n.one) (does_begin keys laws n.key key agrees (omega arith))
      ∙ ap (λ o. option_else (option_else o (scan key (listed keys laws nodes n.zero))) (own_hit acts n.key n.value)) (none_side n.key key (listed keys laws nodes n.one) 1 0 (λ e. omega (arith, e)) next is.node.one.under)

  pub walk_here : (nodes : List (PlainNode K V)) (at : ℕ) (n : PlainNode K V) (key : K) → IsAt keys nodes at n → keys.agree (keys.len n.key) n.key key ≡ true → keys.len n.key ≡ keys.len key → scan key (listed keys laws nodes at) ≡ own_hit acts n.key n.value
  walk_here nodes at n key is agrees same =
      ap (scan key) (listed_at keys laws nodes at n is)
      ∙ three n.key key n.value (listed keys laws nodes n.zero) (listed keys laws nodes n.one) (does_begin keys laws n.key key agrees (omega arith))
      ∙ ap (λ o. option_else (option_else (scan key (listed keys laws nodes n.one)) o) (own_hit acts n.key n.value)) (none_longer n.key key (listed keys laws nodes n.zero) 0 (omega arith) is.node.zero.under)
      ∙ ap (λ o. option_else (option_else o None) (own_hit acts n.key n.value)) (none_longer n.key key (listed keys laws nodes n.one) 1 (omega arith) is.node.one.under)

module _ {K V : Type 0} (keys : Keys K) (laws : KeyLaws keys) where
  -- ---- how many nodes

  pub no_depth : (nodes : List (PlainNode K V)) → depth keys (stands keys nodes 0) ≡ 0
  no_depth nodes = ap (depth keys) (of_none keys nodes)

  pub depth_at : (nodes : List (PlainNode K V)) (at : ℕ) (n : PlainNode K V) → IsAt keys nodes at n → depth keys (stands keys nodes at) ≡ keys.len n.key
  depth_at nodes at n is = ap (depth keys) is.sub

  pub kid_depth : (nodes : List (PlainNode K V)) (top : K) (symbol number : ℕ) → IsKid keys (subs_of keys nodes) top symbol number → (number ≡ 0 → ⊥) → keys.len top < depth keys (stands keys nodes number)
  kid_depth nodes top symbol number kid some = elim kid.none_or_under as (λ _. keys.len top < depth keys (stands keys nodes number)) [
    | inl none ↦ absurd (some none)
    | inr under ↦ subst (λ d. keys.len top < d) (sym (ap (depth_of keys) under.1)) under.2.longer
  ]

  -- one step, and then those of a kid
  pub cost_below : (nodes : List (PlainNode K V)) (at : ℕ) (n : PlainNode K V) (symbol kid old mid new : ℕ) → IsAt keys nodes at n → IsKid keys (subs_of keys nodes) n.key symbol kid → mid ≡ old + 1 → (kid ≡ 0 → new ≡ mid) → new + depth keys (stands keys nodes kid) ≤ mid + (keys.width + 1) → new + depth keys (stands keys nodes at) ≤ old + (keys.width + 1)
  cost_below nodes at n symbol kid old mid new is under one none cost =
      let here : depth keys (stands keys nodes at) ≡ keys.len n.key = depth_at nodes at n is in
      let narrow : keys.len n.key ≤ keys.width = laws.narrow n.key is.node.valid in
      let deeper : (kid ≡ 0 → ⊥) → keys.len n.key < depth keys (stands keys nodes kid) = kid_depth nodes n.key symbol kid under in
      by_kid kid (keys.len n.key) (depth keys (stands keys nodes kid)) old mid new keys.width (depth keys (stands keys nodes at)) here narrow deeper one none cost

  -- ---- all entries

  pub collect_none : (nodes : List (PlainNode K V)) (at : ℕ) (out : List (K × V)) → at ≡ 0 → out ≡ out ++ listed keys laws nodes at
  collect_none nodes at out e = sym (append-nil out) ∙ ap (λ (s : Sub K V). out ++ s.list) (sym (of_none keys nodes)) ∙ ap (λ n. out ++ listed keys laws nodes n) (sym e)
