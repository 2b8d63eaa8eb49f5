-- Nodes side by side under another.
use Rattle.std.proofs.Common.{◌≡◌, ℕ, ◌+◌, ◌<◌, ◌≤◌, List, [], ◌∷◌, ◌++◌, length, take, drop, get_or, sym, subst, arith}
use Rattle.std.proofs.lemmas.List.{take_more, drop_more}
use Rattle.std.specs.List.{AllByRecursion}
use Rattle.std.specs.declared.cmp.Ordering.TheVariants.{Less, Greater}
use Rattle.octet_trie.specs.ListKeys.{octet_keys}
use Rattle.octet_trie.specs.Nodes.{Sub, joined, IsKid, AreKids}
use Rattle.octet_trie.proofs.ListLaws.{list_laws}
use Rattle.octet_trie.proofs.Stretches.{parted}
use Rattle.trie_keys.proofs.Beginning.{before_side, behind_side}
use Rattle.trie_keys.proofs.Entries.{Before, Behind, all_append}
use Rattle.trie_keys.specs.Keys.{Under}

module _ {V : Type 0} where
  abbrev pub AllBelow : ℕ → List (Sub V) → Type 0
  AllBelow t ks = AllByRecursion (λ k. k.symbol < t) ks

  abbrev pub AllAbove : ℕ → List (Sub V) → Type 0
  AllAbove t ks = AllByRecursion (λ k. t < k.symbol) ks

  pub each_kid : (top : List ℕ) (low : ℕ) (ks : List (Sub V)) → AreKids top low ks → AllByRecursion (λ k. IsKid top k) ks
  each_kid top low [] all = tt
  each_kid top low (k ∷ ks) all = (all.1.0, each_kid top (k.symbol + 1) ks all.1.1)

  -- from lower on
  lower : (top : List ℕ) (low high : ℕ) (ks : List (Sub V)) → low ≤ high → AreKids top high ks → AreKids top low ks
  lower top low high [] h all = tt
  lower top low high (k ∷ ks) h all = (omega (arith, all.0), (all.1.0, all.1.1))

  all_from : (top : List ℕ) (low t : ℕ) (ks : List (Sub V)) → t < low → AreKids top low ks → AllAbove t ks
  all_from top low t [] h all = tt
  all_from top low t (k ∷ ks) h all = (omega (arith, all.0), all_from top (k.symbol + 1) t ks (omega (arith, all.0)) all.1.1)

  pub few_from : (top : List ℕ) (low : ℕ) (ks : List (Sub V)) → low ≤ 256 → AreKids top low ks → length ks + low ≤ 256
  few_from top low [] h all = omega arith
  few_from top low (k ∷ ks) h all = omega (arith, all.0, all.1.0.small, few_from top (k.symbol + 1) ks (omega (arith, all.1.0.small)) all.1.1)

  pub few_kids : (top : List ℕ) (ks : List (Sub V)) → AreKids top 0 ks → length ks ≤ 256
  few_kids top ks all = omega (arith, few_from top 0 ks (omega arith) all)

  -- ---- taken apart at one of them

  pub kid_of : (top : List ℕ) (low : ℕ) (xs ys : List (Sub V)) (k : Sub V) → AreKids top low (xs ++ (k ∷ ys)) → IsKid top k
  kid_of top low [] ys k all = all.1.0
  kid_of top low (x ∷ xs) ys k all = kid_of top (x.symbol + 1) xs ys k all.1.1

  least : (top : List ℕ) (low : ℕ) (xs ys : List (Sub V)) (k : Sub V) → AreKids top low (xs ++ (k ∷ ys)) → low ≤ k.symbol
  least top low [] ys k all = all.0
  least top low (x ∷ xs) ys k all = omega (arith, all.0, least top (x.symbol + 1) xs ys k all.1.1)

  pub below_kid : (top : List ℕ) (low : ℕ) (xs ys : List (Sub V)) (k : Sub V) → AreKids top low (xs ++ (k ∷ ys)) → AllBelow k.symbol xs
  below_kid top low [] ys k all = tt
  below_kid top low (x ∷ xs) ys k all = (omega (arith, least top (x.symbol + 1) xs ys k all.1.1), below_kid top (x.symbol + 1) xs ys k all.1.1)

  pub above_kid : (top : List ℕ) (low : ℕ) (xs ys : List (Sub V)) (k : Sub V) → AreKids top low (xs ++ (k ∷ ys)) → AllAbove k.symbol ys
  above_kid top low [] ys k all = all_from top (k.symbol + 1) k.symbol ys (omega arith) all.1.1
  above_kid top low (x ∷ xs) ys k all = above_kid top (x.symbol + 1) xs ys k all.1.1

  pub kids_replaced : (top : List ℕ) (low : ℕ) (xs ys : List (Sub V)) (a b : Sub V) → AreKids top low (xs ++ (a ∷ ys)) → b.symbol ≡ a.symbol → IsKid top b → AreKids top low (xs ++ (b ∷ ys))
  kids_replaced top low [] ys a b all e kid = (omega (arith, all.0, e), (kid, subst (λ t. AreKids top (t + 1) ys) (sym e) all.1.1))
  kids_replaced top low (x ∷ xs) ys a b all e kid = (all.0, (all.1.0, kids_replaced top (x.symbol + 1) xs ys a b all.1.1 e kid))

  pub kids_without : (top : List ℕ) (low : ℕ) (xs ys : List (Sub V)) (a : Sub V) → AreKids top low (xs ++ (a ∷ ys)) → AreKids top low (xs ++ ys)
  kids_without top low [] ys a all = lower top low (a.symbol + 1) ys (omega (arith, all.0)) all.1.1
  kids_without top low (x ∷ xs) ys a all = (all.0, (all.1.0, kids_without top (x.symbol + 1) xs ys a all.1.1))

  from_above : (top : List ℕ) (low t : ℕ) (ys : List (Sub V)) → AreKids top low ys → AllAbove t ys → AreKids top (t + 1) ys
  from_above top low t [] all above = tt
  from_above top low t (y ∷ ys) all above = (omega (arith, above.0), (all.1.0, all.1.1))

  pub kids_with : (top : List ℕ) (low : ℕ) (xs ys : List (Sub V)) (b : Sub V) → AreKids top low (xs ++ ys) → low ≤ b.symbol → IsKid top b → AllBelow b.symbol xs → AllAbove b.symbol ys → AreKids top low (xs ++ (b ∷ ys))
  kids_with top low [] ys b all h kid below above = (h, (kid, from_above top low b.symbol ys all above))
  kids_with top low (x ∷ xs) ys b all h kid below above = (all.0, (all.1.0, kids_with top (x.symbol + 1) xs ys b all.1.1 (omega (arith, below.0)) kid below.1 above))

  -- ---- a search among them

  below_on : (t : ℕ) (xs : List (Sub V)) (k : Sub V) → AllBelow k.symbol xs → k.symbol < t → AllBelow t xs
  below_on t [] k all h = tt
  below_on t (x ∷ xs) k all h = (omega (arith, all.0), below_on t xs k all.1 h)

  above_on : (t : ℕ) (ys : List (Sub V)) (k : Sub V) → AllAbove k.symbol ys → t < k.symbol → AllAbove t ys
  above_on t [] k all h = tt
  above_on t (y ∷ ys) k all h = (omega (arith, all.0), above_on t ys k all.1 h)

  pub all_below : (top : List ℕ) (ks : List (Sub V)) (place t : ℕ) (d : Sub V) → AreKids top 0 ks → place < length ks → (get_or ks place d).symbol < t → AllBelow t (take (place + 1) ks)
  all_below top ks place t d all h lt =
      let k = get_or ks place d in
      let split = subst (λ xs. AreKids top 0 xs) (parted ks place d h) all in
      let front : take (place + 1) ks ≡ take place ks ++ k ∷ [] = take_more ks place d h in
      subst (λ xs. AllBelow t xs) (sym front)
      (all_append (λ x. x.symbol < t) (take place ks) (k ∷ []) (below_on t (take place ks) k (below_kid top 0 (take place ks) (drop (place + 1) ks) k split) lt) (lt, tt))

  pub all_above : (top : List ℕ) (ks : List (Sub V)) (place t : ℕ) (d : Sub V) → AreKids top 0 ks → place < length ks → t < (get_or ks place d).symbol → AllAbove t (drop place ks)
  all_above top ks place t d all h lt =
      let k = get_or ks place d in
      let split = subst (λ xs. AreKids top 0 xs) (parted ks place d h) all in
      subst (λ xs. AllAbove t xs) (sym (drop_more ks place d h))
      (lt, above_on t (drop (place + 1) ks) k (above_kid top 0 (take place ks) (drop (place + 1) ks) k split) lt)

  -- ---- their entries

  pub behind_joined : (top key : List ℕ) (t : ℕ) (ks : List (Sub V)) → Under octet_keys top (t + 2) key → AllByRecursion (λ k. IsKid top k) ks → AllBelow t ks → Behind octet_keys.order key (joined ks)
  behind_joined top key t [] u all below = tt
  behind_joined top key t (k ∷ ks) u all below =
      all_append (λ e. octet_keys.order key e.0 ≡ Greater) k.list (joined ks)
      (behind_side octet_keys (list_laws 255) top key (k.symbol + 2) (t + 2) k.list (omega (arith, below.0)) u all.0.list)
      (behind_joined top key t ks u all.1 below.1)

  -- the key comes before all whose symbols are greater than its own
  pub before_joined : (top key : List ℕ) (t : ℕ) (ks : List (Sub V)) → Under octet_keys top t key → AllByRecursion (λ k. IsKid top k) ks → AllByRecursion (λ k. t < k.symbol + 2) ks → Before octet_keys.order key (joined ks)
  before_joined top key t [] u all above = tt
  before_joined top key t (k ∷ ks) u all above =
      all_append (λ e. octet_keys.order key e.0 ≡ Less) k.list (joined ks)
      (before_side octet_keys (list_laws 255) top key t (k.symbol + 2) k.list above.0 u all.0.list)
      (before_joined top key t ks u all.1 above.1)

  pub past_two : (t : ℕ) (ks : List (Sub V)) → AllAbove t ks → AllByRecursion (λ k. t + 2 < k.symbol + 2) ks
  past_two t [] all = tt
  past_two t (k ∷ ks) all = (omega (arith, all.0), past_two t ks all.1)

  pub past_ends : (t : ℕ) (ks : List (Sub V)) → t < 2 → AllByRecursion (λ k. t < k.symbol + 2) ks
  past_ends t [] h = tt
  past_ends t (k ∷ ks) h = (omega arith, past_ends t ks h)
