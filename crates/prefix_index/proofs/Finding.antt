-- The last entry of a trie whose key begins an address is the first in order of precedence that contains it.
use Rattle.std.proofs.Common.{◌≡◌, ℕ, ◌+◌, ◌<◌, ◌≤◌, ◌⊎◌, inl, inr, Bool, true, false, not, ◌&&◌, nat_lt, ◌==◌, cond, Option, Some, None, List, [], ◌∷◌, ◌++◌, map, refl, sym, ap, ◌∙◌, subst, arith, append-nil, is_eq, nat_cmp}
use Rattle.std.proofs.lemmas.Bool.Decides.{nat_tests}
use Rattle.std.specs.BTreeMap.{insert_entry, is_at}
use Rattle.std.specs.Cmp.{tied_itself}
use Rattle.std.specs.List.{AllByRecursion, find}
use Rattle.std.specs.List.Sorted.{IsStrictlySortedBy}
use Rattle.std.specs.Map.{keys_of, lookup}
use Rattle.std.specs.Option.{option_map}
use Rattle.std.specs.Ordering.{match_ordering, ordering_then}
use Rattle.std.specs.declared.cmp.Ordering.{Ordering}
use Rattle.std.specs.declared.cmp.Ordering.TheVariants.{Less, Equal, Greater}
use Rattle.ip_prefix.specs.declared.Addr.{Addr}
use Rattle.ip_prefix.specs.declared.Addr.TheVariants.{V4, V6}
use Rattle.ip_prefix.specs.Prefix.{PlainPrefix, contains, prefix_order}
use Rattle.trie_keys.proofs.Entries.{all_append, all_map}
use Rattle.trie_keys.specs.Keys.{begins}
use Rattle.trie_keys.specs.Sorting.{AreEntries}
use Rattle.prefix_index.specs.Walk.{is_hit, last_hit}
use Rattle.prefix_index.specs.Bits.{PlainBits, bits_order, bits_agree, bits_valid, bits_keys}
use Rattle.prefix_index.specs.BitsLaws.{bits_laws, at_most}
use Rattle.prefix_index.proofs.Order.{prefix_order_total}
use Rattle.prefix_index.specs.Ranked.{prefix_four, prefix_six, prefixes, ranked, ranked_prefixes}
use Rattle.trie_keys.proofs.ByKey.{above-below}
use Rattle.prefix_index.proofs.Last.{IsBelow, last_found, last_all, last_passes, last_none_all}
use Rattle.trie_keys.proofs.OneList.{none_above}
use Rattle.prefix_index.proofs.Ranking.{look_four, look_six, sorted_ranked}
use Rattle.prefix_index.proofs.Same.{same_prefix}

is_less : (x y : ℕ) → x < y → nat_lt x y ≡ true
is_less x y h = grind (arith, nat_tests)

less : (x y : ℕ) → x < y → nat_cmp x y ≡ Less
less x y h = ap (λ b. cond b Less (cond (x == y) Equal Greater)) (is_less x y h)

never : (b : Bool) → (b ≡ true → ⊥) → b ≡ false
never true h = absurd (h refl)
never false h = refl

false_true : (b : Bool) → b ≡ false → b ≡ true → ⊥
false_true b e f = let k : false ≡ true = sym e ∙ f in cc k

and_true : (a b : Bool) → b ≡ true → (a && b) ≡ a
and_true true b e = e
and_true false b e = refl

and_false : (a b : Bool) → a ≡ false → (a && b) ≡ false
and_false true b e = cc e
and_false false b e = refl

within : (x y : ℕ) → y ≤ x → not (nat_lt x y) ≡ true
within x y h = grind (arith, nat_tests)

-- the longer prefix of a family comes first
longer_four : (a b : PlainBits) → a.len < b.len → prefix_order (prefix_four b) (prefix_four a) ≡ Less
longer_four a b lt = ap (λ o. ordering_then o (ordering_then (nat_cmp (281470681743360 + b.number) (281470681743360 + a.number)) (nat_cmp 0 0))) (less (96 + a.len) (96 + b.len) (omega arith))

longer_six : (a b : PlainBits) → a.len < b.len → prefix_order (prefix_six b) (prefix_six a) ≡ Less
longer_six a b lt = ap (λ o. ordering_then o (ordering_then (nat_cmp b.number a.number) (nat_cmp 1 1))) (less a.len b.len lt)

not_both : (o : Ordering) → o ≡ Less → o ≡ Greater → ⊥
not_both o e f = let k : Less ≡ Greater = sym e ∙ f in cc k

not_tied : (o : Ordering) → o ≡ Equal → o ≡ Greater → ⊥
not_tied o e f = let k : Equal ≡ Greater = sym e ∙ f in cc k

in_four : (b : PlainBits) (n : ℕ) → bits_valid 32 b ≡ true → begins (bits_keys 32) b (record { number = n; len = 32 }) ≡ contains (prefix_four b) (V4 n)
in_four b n valid = and_true (bits_agree 32 b.len b (record { number = n; len = 32 })) _ (within 32 b.len (at_most 32 b valid))

in_six : (b : PlainBits) (n : ℕ) → bits_valid 128 b ≡ true → begins (bits_keys 128) b (record { number = n; len = 128 }) ≡ contains (prefix_six b) (V6 n)
in_six b n valid = and_true (bits_agree 128 b.len b (record { number = n; len = 128 })) _ (within 128 b.len (at_most 128 b valid))

module _ {V : Type 0} where
  abbrev look : PlainPrefix → List (PlainPrefix × V) → Option V
  look q es = lookup (is_at (prefix_order q)) es

  abbrev mapped : (PlainBits → PlainPrefix) → List (PlainBits × V) → List (PlainPrefix × V)
  mapped of es = map (λ e. (of e.0, e.1)) es

  some_same : (x y : V) → Some x ≡ Some y → x ≡ y
  some_same x y e = cc e

  no_some : (x : V) → None ≡ Some x → ⊥
  no_some x e = cc e

  -- what is so of all is so of all in order
  all_inserted : (P : PlainPrefix × V → Type 0) (k : PlainPrefix) (v : V) (es : List (PlainPrefix × V)) → P (k, v) → AllByRecursion P es → AllByRecursion P (insert_entry prefix_order es k v)
  all_inserted P k v [] here all = (here, tt)
  all_inserted P k v (e ∷ es) here all =
      elim (prefix_order k e.0) as (λ o. prefix_order k e.0 ≡ o → AllByRecursion P (match_ordering o ((k, v) ∷ e ∷ es) ((e.0, v) ∷ es) (e ∷ insert_entry prefix_order es k v))) [
        | Less ↦ λ h. (here, all)
        | Equal ↦ λ h. (subst (λ q. P (q, v)) (same_prefix k e.0 h) here, all.1)
        | Greater ↦ λ h. (all.0, all_inserted P k v es here all.1)
      ] refl

  all_ranked : (P : PlainPrefix × V → Type 0) (es : List (PlainPrefix × V)) → AllByRecursion P es → AllByRecursion P (ranked es)
  all_ranked P [] all = tt
  all_ranked P (e ∷ es) all = all_inserted P e.0 e.1 (ranked es) all.0 (all_ranked P es all.1)

  all_of : (of : PlainBits → PlainPrefix) (P : PlainPrefix × V → Type 0) (Q : PlainBits × V → Type 0) (es : List (PlainBits × V)) → ((e : PlainBits × V) → Q e → P (of e.0, e.1)) → AllByRecursion Q es → AllByRecursion P (mapped of es)
  all_of of P Q [] f all = tt
  all_of of P Q (e ∷ es) f all = (f e all.0, all_of of P Q es f all.1)

  all_any : (of : PlainBits → PlainPrefix) (P : PlainPrefix × V → Type 0) (es : List (PlainBits × V)) → ((e : PlainBits × V) → P (of e.0, e.1)) → AllByRecursion P (mapped of es)
  all_any of P [] f = tt
  all_any of P (e ∷ es) f = (f e, all_any of P es f)

  both : (P Q S : PlainBits × V → Type 0) (es : List (PlainBits × V)) → ((e : PlainBits × V) → P e → Q e → S e) → AllByRecursion P es → AllByRecursion Q es → AllByRecursion S es
  both P Q S [] f p q = tt
  both P Q S (e ∷ es) f p q = (f e p.0 q.0, both P Q S es f p.1 q.1)

  find_none : (test : PlainPrefix × V → Bool) (es : List (PlainPrefix × V)) → AllByRecursion (λ e. test e ≡ false) es → find test es ≡ None
  find_none test [] all = refl
  find_none test (e ∷ es) all = ap (λ b. cond b (Some e) (find test es)) all.0 ∙ find_none test es all.1

  -- an entry that passes, and that no other that passes comes before, is found first
  find_first : (test : PlainPrefix × V → Bool) (p : PlainPrefix) (v : V) (es : List (PlainPrefix × V)) → IsStrictlySortedBy prefix_order (keys_of es)
      → AllByRecursion (λ x. test x ≡ true → (prefix_order p x.0 ≡ Less) ⊎ (x.0 ≡ p)) es → look p es ≡ Some v → test (p, v) ≡ true → find test es ≡ Some (p, v)
  unfolding IsStrictlySortedBy
  find_first test p v [] sorted all here passes = absurd (no_some v here)
  find_first test p v (x ∷ xs) sorted all here passes =
      elim (prefix_order p x.0) as (λ o. prefix_order p x.0 ≡ o → cond (is_eq o) (Some x.1) (look p xs) ≡ Some v → find test (x ∷ xs) ≡ Some (p, v)) [
        | Less ↦ λ o h. absurd (no_some v (sym (none_above prefix_order_total p xs (above-below prefix_order_total p x.0 (keys_of xs) o sorted.0)) ∙ h))
        | Equal ↦ λ o h.
            let same : p ≡ x.0 = same_prefix p x.0 o in
            let value : x.1 ≡ v = some_same x.1 v h in
            let entry : PlainPrefix × V = (p, v) in
            let whole : x ≡ entry = λ i. (sym same i, value i) in
            ap (λ b. cond b (Some x) (find test xs)) (ap test whole ∙ passes) ∙ ap (λ (e : PlainPrefix × V). Some e) whole
        | Greater ↦ λ o h.
            let skipped : test x ≡ false = never (test x) (λ t. elim (all.0 t) as (λ _. ⊥) [
              | inl lt ↦ not_both (prefix_order p x.0) lt o
              | inr e ↦ not_tied (prefix_order p x.0) (ap (prefix_order p) e ∙ tied_itself prefix_order_total p) o
            ]) in
            ap (λ b. cond b (Some x) (find test xs)) skipped ∙ find_first test p v xs sorted.1 all.1 h passes
      ] refl here

  -- an address at which the entry acts and that its prefix contains
  abbrev passes_at : (V → Bool) → Addr → PlainPrefix × V → Bool
  passes_at acts addr e = contains e.0 addr && acts e.1

-- one family, and the entries of the other
module _ {V : Type 0} (acts : V → Bool) (width : ℕ) (of : PlainBits → PlainPrefix) (addr : Addr) (key : PlainBits) (begins_is : (b : PlainBits) → bits_valid width b ≡ true → begins (bits_keys width) b key ≡ contains (of b) addr) (longer : (a b : PlainBits) → a.len < b.len → prefix_order (of b) (of a) ≡ Less) where
  hit_is : (e : PlainBits × V) → bits_valid width e.0 ≡ true → is_hit (bits_keys width) acts key e ≡ passes_at acts addr (of e.0, e.1)
  hit_is e valid = ap (λ t. t && acts e.1) (begins_is e.0 valid)

  longest_of : (es : List (PlainBits × V)) (ps left right : List (PlainPrefix × V)) → ps ≡ left ++ (mapped of es ++ right) → AllByRecursion (λ e. contains e.0 addr ≡ false) left → AllByRecursion (λ e. contains e.0 addr ≡ false) right
      → ((b : PlainBits) → look (of b) (ranked ps) ≡ lookup (is_at (bits_order b)) es) → AreEntries (bits_keys width) es
      → option_map (λ e. (of e.0, e.1)) (last_hit (bits_keys width) acts key es) ≡ find (passes_at acts addr) (ranked ps)
  longest_of es ps left right split before behind found_at is =
      let test : PlainPrefix × V → Bool = passes_at acts addr in
      let hit : PlainBits × V → Bool = is_hit (bits_keys width) acts key in
      elim (last_hit (bits_keys width) acts key es) as (λ o. last_hit (bits_keys width) acts key es ≡ o → option_map (λ e. (of e.0, e.1)) o ≡ find test (ranked ps)) [
        | None ↦ λ none.
            let P : PlainPrefix × V → Type 0 = λ e. test e ≡ false in
            let here : AllByRecursion P (mapped of es) =
            all_of of P (λ e. test (of e.0, e.1) ≡ false) es (λ e h. h)
            (both (λ e. bits_valid width e.0 ≡ true) (λ e. hit e ≡ false) (λ e. test (of e.0, e.1) ≡ false) es (λ e v h. sym (hit_is e v) ∙ h) is.valid (last_none_all hit es none)) in
            sym (find_none test (ranked ps) (all_ranked P ps (subst (λ xs. AllByRecursion P xs) (sym split)
            (all_append P left (mapped of es ++ right) (all_map (λ e. contains e.0 addr ≡ false) P left (λ e h. and_false (contains e.0 addr) (acts e.1) h) before)
            (all_append P (mapped of es) right here (all_map (λ e. contains e.0 addr ≡ false) P right (λ e h. and_false (contains e.0 addr) (acts e.1) h) behind))))))
        | Some e ↦ λ some.
            let found = last_found (bits_keys width) (bits_laws width) acts key es e is.valid is.sorted some in
            let valid : bits_valid width e.0 ≡ true = last_all hit (λ y. bits_valid width y.0 ≡ true) es e is.valid some in
            let passes : test (of e.0, e.1) ≡ true = sym (hit_is e valid) ∙ last_passes hit es e some in
            let P : PlainPrefix × V → Type 0 = λ x. test x ≡ true → (prefix_order (of e.0) x.0 ≡ Less) ⊎ (x.0 ≡ of e.0) in
            let away : (x : PlainPrefix × V) → contains x.0 addr ≡ false → P x = λ x h t. absurd (false_true (test x) (and_false (contains x.0 addr) (acts x.1) h) t) in
            let here : AllByRecursion P (mapped of es) =
            all_of of P (λ x. P (of x.0, x.1)) es (λ x h. h)
            (both (λ x. bits_valid width x.0 ≡ true) (IsBelow (bits_keys width) (bits_laws width) acts key e.0) (λ x. P (of x.0, x.1)) es
            (λ x v h t. elim (h (hit_is x v ∙ t)) as (λ _. (prefix_order (of e.0) (of x.0) ≡ Less) ⊎ (of x.0 ≡ of e.0)) [ inl lt ↦ inl (longer x.0 e.0 lt) | inr s ↦ inr (ap of s) ])
            is.valid found.1) in
            sym (find_first test (of e.0) e.1 (ranked ps) (sorted_ranked ps)
            (all_ranked P ps (subst (λ xs. AllByRecursion P xs) (sym split)
            (all_append P left (mapped of es ++ right) (all_map (λ x. contains x.0 addr ≡ false) P left away before)
            (all_append P (mapped of es) right here (all_map (λ x. contains x.0 addr ≡ false) P right away behind)))))
            (found_at e.0 ∙ found.0) passes)
      ] refl

module _ {V : Type 0} (acts : V → Bool) where
  pub longest_four : (four six : List (PlainBits × V)) (n : ℕ) → AreEntries (bits_keys 32) four
      → option_map (λ e. (prefix_four e.0, e.1)) (last_hit (bits_keys 32) acts (record { number = n; len = 32 }) four) ≡ find (passes_at acts (V4 n)) (ranked_prefixes four six)
  longest_four four six n is =
      longest_of acts 32 prefix_four (V4 n) (record { number = n; len = 32 }) (λ b v. in_four b n v) longer_four four (prefixes four six) [] (mapped prefix_six six) refl tt
      (all_any prefix_six (λ e. contains e.0 (V4 n) ≡ false) six (λ e. refl)) (λ b. look_four b four six) is

  pub longest_six : (four six : List (PlainBits × V)) (n : ℕ) → AreEntries (bits_keys 128) six
      → option_map (λ e. (prefix_six e.0, e.1)) (last_hit (bits_keys 128) acts (record { number = n; len = 128 }) six) ≡ find (passes_at acts (V6 n)) (ranked_prefixes four six)
  longest_six four six n is =
      longest_of acts 128 prefix_six (V6 n) (record { number = n; len = 128 }) (λ b v. in_six b n v) longer_six six (prefixes four six) (mapped prefix_four four) []
      (ap (λ xs. mapped prefix_four four ++ xs) (sym (append-nil (mapped prefix_six six)))) (all_any prefix_four (λ e. contains e.0 (V6 n) ≡ false) four (λ e. refl)) tt (λ b. look_six b four six) is
