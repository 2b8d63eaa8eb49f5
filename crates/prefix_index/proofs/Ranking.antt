-- Entries of two tries, as one list in order of precedence: what is found there, and what an edit of a trie does to it.
use Rattle.std.proofs.Common.{◌≡◌, ℕ, ◌≤◌, Bool, true, false, cond, Option, Some, None, List, [], ◌∷◌, ◌++◌, map, refl, sym, ap, ◌∙◌}
use Rattle.std.specs.BTreeMap.{insert_entry, is_at}
use Rattle.std.specs.Cmp.{IsTotalOrder}
use Rattle.std.specs.List.{AllByRecursion}
use Rattle.std.specs.List.Sorted.{IsStrictlySortedBy}
use Rattle.std.specs.Map.{keys_of, lookup, remove_entry}
use Rattle.std.specs.Ordering.{match_ordering}
use Rattle.std.specs.declared.cmp.Ordering.{Ordering}
use Rattle.std.specs.declared.cmp.Ordering.TheVariants.{Less, Equal, Greater}
use Rattle.ip_prefix.specs.declared.Addr.{Addr}
use Rattle.ip_prefix.specs.declared.Addr.TheVariants.{V4, V6}
use Rattle.ip_prefix.specs.Prefix.{PlainPrefix, prefix_order}
use Rattle.prefix_index.specs.Bits.{PlainBits, bits_order}
use Rattle.prefix_index.specs.BitsLaws.{bits_laws}
use Rattle.prefix_index.proofs.Order.{prefix_order_total}
use Rattle.prefix_index.specs.Ranked.{AreSome, prefix_four, prefix_six, prefixes, ranked, ranked_prefixes}
use Rattle.trie_keys.proofs.ByKey.{lookup-insert_entry, lookup-remove_entry, ordered-insert, ordered-remove, tied_if, same_place, at_itself, apart_from, ordered-others}
use Rattle.trie_keys.proofs.OneList.{same_entries, none_found}
use Rattle.prefix_index.proofs.Same.{same_prefix}

both_ways : (s t : Bool) → (s ≡ true → t ≡ true) → (t ≡ true → s ≡ true) → s ≡ t
both_ways true t f g = sym (f refl)
both_ways false true f g = g refl
both_ways false false f g = refl

never : (b : Bool) → (b ≡ true → ⊥) → b ≡ false
never true h = absurd (h refl)
never false h = refl

not_true : (b : Bool) → b ≡ false → b ≡ true → ⊥
not_true b e f = let k : false ≡ true = sym e ∙ f in cc k

-- prefixes at one place are one
same_at : (p q : PlainPrefix) → is_at (prefix_order p) q ≡ true → p ≡ q
same_at p q h = same_prefix p q (tied_if (prefix_order p q) h)

pub bits_total : IsTotalOrder bits_order
bits_total = (bits_laws 0).total

same_bits : (a b : PlainBits) → is_at (bits_order a) b ≡ true → a ≡ b
same_bits a b h = (bits_laws 0).same a b (tied_if (bits_order a b) h)

-- the bits of a prefix
abbrev number_in : Addr → ℕ
number_in (V4 n) = n
number_in (V6 n) = n

abbrev bits_of : PlainPrefix → PlainBits
bits_of p = record { number = number_in p.addr; len = p.length }

abbrev is_six : Addr → Bool
is_six (V4 n) = false
is_six (V6 n) = true

pub four_at : (a b : PlainBits) → is_at (prefix_order (prefix_four a)) (prefix_four b) ≡ is_at (bits_order a) b
four_at a b =
    both_ways _ _
    (λ h. let same : a ≡ b = ap bits_of (same_at (prefix_four a) (prefix_four b) h) in ap (λ (c : PlainBits). is_at (bits_order a) c) (sym same) ∙ at_itself bits_total a)
    (λ h. let same : a ≡ b = same_bits a b h in ap (λ (c : PlainBits). is_at (prefix_order (prefix_four a)) (prefix_four c)) (sym same) ∙ at_itself prefix_order_total (prefix_four a))

pub six_at : (a b : PlainBits) → is_at (prefix_order (prefix_six a)) (prefix_six b) ≡ is_at (bits_order a) b
six_at a b =
    both_ways _ _
    (λ h. let same : a ≡ b = ap bits_of (same_at (prefix_six a) (prefix_six b) h) in ap (λ (c : PlainBits). is_at (bits_order a) c) (sym same) ∙ at_itself bits_total a)
    (λ h. let same : a ≡ b = same_bits a b h in ap (λ (c : PlainBits). is_at (prefix_order (prefix_six a)) (prefix_six c)) (sym same) ∙ at_itself prefix_order_total (prefix_six a))

pub four_not_six : (a b : PlainBits) → is_at (prefix_order (prefix_four a)) (prefix_six b) ≡ false
four_not_six a b = never _ (λ h. let k : false ≡ true = ap (λ (p : PlainPrefix). is_six p.addr) (same_at (prefix_four a) (prefix_six b) h) in cc k)

pub six_not_four : (a b : PlainBits) → is_at (prefix_order (prefix_six a)) (prefix_four b) ≡ false
six_not_four a b = never _ (λ h. let k : true ≡ false = ap (λ (p : PlainPrefix). is_six p.addr) (same_at (prefix_six a) (prefix_four b) h) in cc k)

module _ {K V : Type 0} (R : K → K → Ordering) (o : IsTotalOrder R) where
  gone : (q k : K) (es : List (K × V)) → is_at (R q) k ≡ true → IsStrictlySortedBy R (keys_of es) → lookup (is_at (R q)) (remove_entry (is_at (R k)) es) ≡ None
  gone q k [] h sorted = refl
  gone q k (e ∷ es) h sorted =
      let same : is_at (R q) e.0 ≡ is_at (R k) e.0 = same_place o q k e.0 h in
      elim (is_at (R k) e.0) as (λ b. is_at (R k) e.0 ≡ b → lookup (is_at (R q)) (cond b es (e ∷ remove_entry (is_at (R k)) es)) ≡ None) [
        | true ↦ λ t. none_found o q es (apart_from o q e es (same ∙ t) sorted)
        | false ↦ λ t. ap (λ b. cond b (Some e.1) (lookup (is_at (R q)) (remove_entry (is_at (R k)) es))) (same ∙ t) ∙ gone q k es h (ordered-others o e es sorted)
      ] refl

  lookup_removed : (q k : K) (es : List (K × V)) → IsStrictlySortedBy R (keys_of es) → lookup (is_at (R q)) (remove_entry (is_at (R k)) es) ≡ cond (is_at (R q) k) None (lookup (is_at (R q)) es)
  lookup_removed q k es sorted = elim (is_at (R q) k) as (λ b. is_at (R q) k ≡ b → lookup (is_at (R q)) (remove_entry (is_at (R k)) es) ≡ cond b None (lookup (is_at (R q)) es)) [
    | true ↦ λ h. gone q k es h sorted
    | false ↦ λ h. lookup-remove_entry o q k es h
  ] refl

module _ {V : Type 0} where
  abbrev look : PlainPrefix → List (PlainPrefix × V) → Option V
  look q es = lookup (is_at (prefix_order q)) es

  abbrev mapped : (PlainBits → PlainPrefix) → List (PlainBits × V) → List (PlainPrefix × V)
  mapped of es = map (λ e. (of e.0, e.1)) es

  look_image : (of : PlainBits → PlainPrefix) → ((a b : PlainBits) → is_at (prefix_order (of a)) (of b) ≡ is_at (bits_order a) b) → (b : PlainBits) (es : List (PlainBits × V)) → look (of b) (mapped of es) ≡ lookup (is_at (bits_order b)) es
  look_image of at b [] = refl
  look_image of at b (e ∷ es) = λ i. cond (at b e.0 i) (Some e.1) (look_image of at b es i)

  look_other : (q : PlainPrefix) (of : PlainBits → PlainPrefix) → ((b : PlainBits) → is_at (prefix_order q) (of b) ≡ false) → (es : List (PlainBits × V)) → look q (mapped of es) ≡ None
  look_other q of apart [] = refl
  look_other q of apart (e ∷ es) = ap (λ b. cond b (Some e.1) (look q (mapped of es))) (apart e.0) ∙ look_other q of apart es

  -- the first that is there
  abbrev pub or_else : Option V → Option V → Option V
  or_else None other = other
  or_else (Some v) other = Some v

  or_none : (found : Option V) → or_else found None ≡ found
  or_none None = refl
  or_none (Some v) = refl

  or_cond : (b : Bool) (v : V) (x y : Option V) → cond b (Some v) (or_else x y) ≡ or_else (cond b (Some v) x) y
  or_cond true v x y = refl
  or_cond false v x y = refl

  look_append : (q : PlainPrefix) (xs ys : List (PlainPrefix × V)) → look q (xs ++ ys) ≡ or_else (look q xs) (look q ys)
  look_append q [] ys = refl
  look_append q (x ∷ xs) ys = ap (λ found. cond (is_at (prefix_order q) x.0) (Some x.1) found) (look_append q xs ys) ∙ or_cond (is_at (prefix_order q) x.0) x.1 (look q xs) (look q ys)

  pub look_ranked : (q : PlainPrefix) (es : List (PlainPrefix × V)) → look q (ranked es) ≡ look q es
  look_ranked q [] = refl
  look_ranked q (e ∷ es) = lookup-insert_entry prefix_order_total q e.0 e.1 (ranked es) ∙ ap (λ found. cond (is_at (prefix_order q) e.0) (Some e.1) found) (look_ranked q es)

  pub sorted_ranked : (es : List (PlainPrefix × V)) → IsStrictlySortedBy prefix_order (keys_of (ranked es))
  unfolding IsStrictlySortedBy
  sorted_ranked [] = tt
  sorted_ranked (e ∷ es) = ordered-insert prefix_order_total e.0 e.1 (ranked es) (sorted_ranked es)

  pub look_four : (b : PlainBits) (four six : List (PlainBits × V)) → look (prefix_four b) (ranked_prefixes four six) ≡ lookup (is_at (bits_order b)) four
  look_four b four six =
      look_ranked (prefix_four b) (prefixes four six)
      ∙ look_append (prefix_four b) (mapped prefix_four four) (mapped prefix_six six)
      ∙ ap (λ found. or_else (look (prefix_four b) (mapped prefix_four four)) found) (look_other (prefix_four b) prefix_six (four_not_six b) six)
      ∙ or_none (look (prefix_four b) (mapped prefix_four four))
      ∙ look_image prefix_four four_at b four

  pub look_six : (b : PlainBits) (four six : List (PlainBits × V)) → look (prefix_six b) (ranked_prefixes four six) ≡ lookup (is_at (bits_order b)) six
  look_six b four six =
      look_ranked (prefix_six b) (prefixes four six)
      ∙ look_append (prefix_six b) (mapped prefix_four four) (mapped prefix_six six)
      ∙ ap (λ found. or_else found (look (prefix_six b) (mapped prefix_six six))) (look_other (prefix_six b) prefix_four (six_not_four b) four)
      ∙ look_image prefix_six six_at b six

  any_prefix : (es : List (PlainPrefix × V)) → AllByRecursion (λ _. Unit {0}) (keys_of es)
  any_prefix [] = tt
  any_prefix (e ∷ es) = (tt, any_prefix es)

  -- two lists in order with the same at each prefix are one
  pub same_lists : (es fs : List (PlainPrefix × V)) → IsStrictlySortedBy prefix_order (keys_of es) → IsStrictlySortedBy prefix_order (keys_of fs)
      → ((b : PlainBits) → look (prefix_four b) es ≡ look (prefix_four b) fs) → ((b : PlainBits) → look (prefix_six b) es ≡ look (prefix_six b) fs) → es ≡ fs
  same_lists es fs s t four six =
      same_entries prefix_order_total (λ _. Unit {0}) (λ p q _ _ h. same_at p q h) es fs s t (any_prefix es) (any_prefix fs)
      (λ q _. elim q.addr as (λ a. look (record { addr = a; length = q.length }) es ≡ look (record { addr = a; length = q.length }) fs) [
        | V4 n ↦ four (record { number = n; len = q.length })
        | V6 n ↦ six (record { number = n; len = q.length })
      ])

  -- ---- edits

  pub with_four : (four six : List (PlainBits × V)) (k : PlainBits) (v : V) → ranked_prefixes (insert_entry bits_order four k v) six ≡ insert_entry prefix_order (ranked_prefixes four six) (prefix_four k) v
  with_four four six k v =
      let L = ranked_prefixes four six in
      same_lists (ranked_prefixes (insert_entry bits_order four k v) six) (insert_entry prefix_order L (prefix_four k) v)
      (sorted_ranked (prefixes (insert_entry bits_order four k v) six)) (ordered-insert prefix_order_total (prefix_four k) v L (sorted_ranked (prefixes four six)))
      (λ b.
      look_four b (insert_entry bits_order four k v) six
      ∙ lookup-insert_entry bits_total b k v four
      ∙ (λ i. cond (sym (four_at b k) i) (Some v) (sym (look_four b four six) i))
      ∙ sym (lookup-insert_entry prefix_order_total (prefix_four b) (prefix_four k) v L))
      (λ b.
      look_six b (insert_entry bits_order four k v) six
      ∙ sym (look_six b four six)
      ∙ ap (λ t. cond t (Some v) (look (prefix_six b) L)) (sym (six_not_four b k))
      ∙ sym (lookup-insert_entry prefix_order_total (prefix_six b) (prefix_four k) v L))

  pub with_six : (four six : List (PlainBits × V)) (k : PlainBits) (v : V) → ranked_prefixes four (insert_entry bits_order six k v) ≡ insert_entry prefix_order (ranked_prefixes four six) (prefix_six k) v
  with_six four six k v =
      let L = ranked_prefixes four six in
      same_lists (ranked_prefixes four (insert_entry bits_order six k v)) (insert_entry prefix_order L (prefix_six k) v)
      (sorted_ranked (prefixes four (insert_entry bits_order six k v))) (ordered-insert prefix_order_total (prefix_six k) v L (sorted_ranked (prefixes four six)))
      (λ b.
      look_four b four (insert_entry bits_order six k v)
      ∙ sym (look_four b four six)
      ∙ ap (λ t. cond t (Some v) (look (prefix_four b) L)) (sym (four_not_six b k))
      ∙ sym (lookup-insert_entry prefix_order_total (prefix_four b) (prefix_six k) v L))
      (λ b.
      look_six b four (insert_entry bits_order six k v)
      ∙ lookup-insert_entry bits_total b k v six
      ∙ (λ i. cond (sym (six_at b k) i) (Some v) (sym (look_six b four six) i))
      ∙ sym (lookup-insert_entry prefix_order_total (prefix_six b) (prefix_six k) v L))

  pub without_four : (four six : List (PlainBits × V)) (k : PlainBits) → IsStrictlySortedBy bits_order (keys_of four) → ranked_prefixes (remove_entry (is_at (bits_order k)) four) six ≡ remove_entry (is_at (prefix_order (prefix_four k))) (ranked_prefixes four six)
  without_four four six k sorted =
      let L = ranked_prefixes four six in
      let left = remove_entry (is_at (bits_order k)) four in
      same_lists (ranked_prefixes left six) (remove_entry (is_at (prefix_order (prefix_four k))) L)
      (sorted_ranked (prefixes left six)) (ordered-remove prefix_order_total (is_at (prefix_order (prefix_four k))) L (sorted_ranked (prefixes four six)))
      (λ b.
      look_four b left six
      ∙ lookup_removed bits_order bits_total b k four sorted
      ∙ (λ i. cond (sym (four_at b k) i) None (sym (look_four b four six) i))
      ∙ sym (lookup_removed prefix_order prefix_order_total (prefix_four b) (prefix_four k) L (sorted_ranked (prefixes four six))))
      (λ b.
      look_six b left six
      ∙ sym (look_six b four six)
      ∙ sym (lookup-remove_entry prefix_order_total (prefix_six b) (prefix_four k) L (six_not_four b k)))

  pub without_six : (four six : List (PlainBits × V)) (k : PlainBits) → IsStrictlySortedBy bits_order (keys_of six) → ranked_prefixes four (remove_entry (is_at (bits_order k)) six) ≡ remove_entry (is_at (prefix_order (prefix_six k))) (ranked_prefixes four six)
  without_six four six k sorted =
      let L = ranked_prefixes four six in
      let left = remove_entry (is_at (bits_order k)) six in
      same_lists (ranked_prefixes four left) (remove_entry (is_at (prefix_order (prefix_six k))) L)
      (sorted_ranked (prefixes four left)) (ordered-remove prefix_order_total (is_at (prefix_order (prefix_six k))) L (sorted_ranked (prefixes four six)))
      (λ b.
      look_four b four left
      ∙ sym (look_four b four six)
      ∙ sym (lookup-remove_entry prefix_order_total (prefix_four b) (prefix_six k) L (four_not_six b k)))
      (λ b.
      look_six b four left
      ∙ lookup_removed bits_order bits_total b k six sorted
      ∙ (λ i. cond (sym (six_at b k) i) None (sym (look_six b four six) i))
      ∙ sym (lookup_removed prefix_order prefix_order_total (prefix_six b) (prefix_six k) L (sorted_ranked (prefixes four six))))

  pick_some : (o : Ordering) (xs ys zs : List (PlainBits × V)) → AreSome xs → AreSome ys → AreSome zs → AreSome (match_ordering o xs ys zs)
  pick_some Less xs ys zs p q r = p
  pick_some Equal xs ys zs p q r = q
  pick_some Greater xs ys zs p q r = r

  pub some_inserted : (k : PlainBits) (v : V) (es : List (PlainBits × V)) → 1 ≤ k.len → AreSome es → AreSome (insert_entry bits_order es k v)
  some_inserted k v [] here all = (here, tt)
  some_inserted k v (e ∷ es) here all = pick_some (bits_order k e.0) ((k, v) ∷ e ∷ es) ((e.0, v) ∷ es) (e ∷ insert_entry bits_order es k v) (here, all) (all.0, all.1) (all.0, some_inserted k v es here all.1)

  pub some_removed : (test : PlainBits → Bool) (es : List (PlainBits × V)) → AreSome es → AreSome (remove_entry test es)
  some_removed test [] all = tt
  some_removed test (e ∷ es) all = elim (test e.0) as (λ b. AreSome (cond b es (e ∷ remove_entry test es))) [ true ↦ all.1 | false ↦ (all.0, some_removed test es all.1) ]
