-- A walk finds what a scan over the entries finds.
use Rattle.std.proofs.Common.{◌≡◌, ℕ, ◌+◌, ◌<◌, Bool, true, false, cond, ◌&&◌, Option, Some, None, List, [], ◌∷◌, ◌++◌, length, take, drop, get_or, refl, sym, ap, ◌∙◌, subst, arith, append-nil, append_assoc, length-append, eqb}
use Rattle.std.proofs.lemmas.Bool.Decides.{nat_tests}
use Rattle.std.proofs.lemmas.List.{take-append-drop, take-map, take_at, length-take-le, get_or_at}
use Rattle.std.specs.BTreeMap.{is_at}
use Rattle.std.specs.List.{AllByRecursion}
use Rattle.std.specs.Map.{lookup}
use Rattle.octet_trie.specs.Edits.{KidAt, GapAt, IsCommon, GoesOn}
use Rattle.octet_trie.specs.Fits.{is_last, fits, acting}
use Rattle.octet_trie.specs.ListKeys.{octet_keys, symbols, entry_key}
use Rattle.octet_trie.specs.Nodes.{PlainNode, Sub, Stored, name_of, key_of, kids_of, joined, list_of, stands, IsKid, AreKids, IsNode, IsAt}
use Rattle.octet_trie.proofs.Between.{between_lookup, lookup_own, lookup_absent, at_exact, at_wild, at_kids, front_of}
use Rattle.octet_trie.proofs.Commons.{under_front}
use Rattle.octet_trie.proofs.Kinship.{AllBelow, AllAbove, each_kid, below_kid, above_kid}
use Rattle.octet_trie.proofs.ListLaws.{list_laws}
use Rattle.octet_trie.proofs.Putting.{name_length, key_short, each_under, begins_at, kid_there}
use Rattle.octet_trie.proofs.Searching.{kid_is, kids_count}
use Rattle.octet_trie.proofs.Spelling.{spelled, length_symbols, symbols_append, unmapped}
use Rattle.octet_trie.proofs.Stretches.{parted, flat_append}
use Rattle.octet_trie.proofs.Taking.{none_apart}
use Rattle.trie_keys.proofs.Beginning.{further}
use Rattle.trie_keys.proofs.Entries.{all_first, all_second, all_map}
use Rattle.trie_keys.specs.Keys.{Under, Begins}
use Rattle.trie_keys.specs.Scan.{own, last_where, option_else}
use Rattle.trie_keys.proofs.Scan.{last_append, last_none, else_none, else_assoc}

abbrev found_at : {V : Type 0} → List ℕ → List (List ℕ × V) → Option V
found_at key es = lookup (is_at (octet_keys.order key)) es

-- ---- the value at a key

module _ {V : Type 0} where
  pub get_apart : (s : Stored V) (n : PlainNode V) (octets : List ℕ) (wild : Bool) (same : ℕ) → IsNode s n → IsCommon (name_of s.octets n) octets same → same < n.len → length octets < 255 → None ≡ found_at (entry_key octets wild) (stands s n).list
  get_apart s n octets wild same node c lt short = sym (lookup_absent (entry_key octets wild) (stands s n).list (none_apart s n octets wild same node c lt short))

  get_own : (s : Stored V) (n : PlainNode V) (wild : Bool) → IsNode s n → cond wild n.wild n.exact ≡ found_at (entry_key (name_of s.octets n) wild) (stands s n).list
  get_own s n true node =
      let top = key_of s.octets n in
      let ks = kids_of s.subs n in
      sym (between_lookup (top ++ 1 ∷ []) (stands s n).list (own (top ++ 0 ∷ []) n.exact) (own (top ++ 1 ∷ []) n.wild) (joined ks) (at_wild top n.exact n.wild ks (key_short s n node) (each_under s n node))
      ∙ lookup_own (top ++ 1 ∷ []) n.wild)
  get_own s n false node =
      let top = key_of s.octets n in
      let ks = kids_of s.subs n in
      sym (between_lookup (top ++ 0 ∷ []) (stands s n).list [] (own (top ++ 0 ∷ []) n.exact) (own (top ++ 1 ∷ []) n.wild ++ joined ks) (at_exact top n.exact n.wild ks (key_short s n node) (each_under s n node))
      ∙ lookup_own (top ++ 0 ∷ []) n.exact)

  pub get_whole : (s : Stored V) (n : PlainNode V) (octets : List ℕ) (wild : Bool) → IsNode s n → name_of s.octets n ≡ octets → cond wild n.wild n.exact ≡ found_at (entry_key octets wild) (stands s n).list
  get_whole s n octets wild node e = get_own s n wild node ∙ ap (λ xs. found_at (entry_key xs wild) (stands s n).list) e

  pub get_gap : (s : Stored V) (n : PlainNode V) (key : List ℕ) (t place : ℕ) → IsNode s n → GapAt (kids_of s.subs n) t place → Under octet_keys (key_of s.octets n) (t + 2) key → None ≡ found_at key (stands s n).list
  get_gap s n key t place node gap u =
      let top = key_of s.octets n in
      let ks = kids_of s.subs n in
      let xs = take place ks in
      let ys = drop place ks in
      let split : ks ≡ xs ++ ys = sym (take-append-drop place ks) in
      let each = each_kid top 0 (xs ++ ys) (subst (λ zs. AreKids top 0 zs) split node.kids) in
      sym (ap (λ zs. found_at key (list_of top n.exact n.wild zs)) split
      ∙ between_lookup key (list_of top n.exact n.wild (xs ++ ([] ++ ys))) (front_of top n.exact n.wild xs) [] (joined ys) (at_kids top key t n.exact n.wild xs [] ys (key_short s n node) u (all_first (λ k. IsKid top k) xs ys each) (all_second (λ k. IsKid top k) xs ys each) gap.below gap.above))

  pub get_below : (s : Stored V) (n k : PlainNode V) (key : List ℕ) (t place : ℕ) → IsNode s n → KidAt (kids_of s.subs n) t place → IsAt s (n.kids + place) k → Under octet_keys (key_of s.octets n) (t + 2) key → found_at key (stands s k).list ≡ found_at key (stands s n).list
  get_below s n k key t place node kid at u =
      let there = kid_there s n k t place node kid at in
      let top = key_of s.octets n in
      let ks = kids_of s.subs n in
      let xs = take place ks in
      let ys = drop (place + 1) ks in
      let a = stands s k in
      let same : get_or ks place a ≡ a = kid_is s n k place a (omega (arith, kid.within, kids_count s n node)) at in
      let split : ks ≡ xs ++ (a ∷ ys) = parted ks place a kid.within ∙ ap (λ x. xs ++ (x ∷ ys)) same in
      let all : AreKids top 0 (xs ++ (a ∷ ys)) = subst (λ zs. AreKids top 0 zs) split node.kids in
      let each = each_kid top 0 (xs ++ (a ∷ ys)) all in
      sym (ap (λ zs. found_at key (list_of top n.exact n.wild zs)) split
      ∙ between_lookup key (list_of top n.exact n.wild (xs ++ ((a ∷ []) ++ ys))) (front_of top n.exact n.wild xs) (joined (a ∷ [])) (joined ys) (at_kids top key t n.exact n.wild xs (a ∷ []) ys (key_short s n node) u (all_first (λ k. IsKid top k) xs (a ∷ ys) each) (all_second (λ k. IsKid top k) xs (a ∷ ys) each).1 (subst (λ z. AllBelow z xs) there.1 (below_kid top 0 xs ys a all)) (subst (λ z. AllAbove z ys) there.1 (above_kid top 0 xs ys a all)))
      ∙ ap (found_at key) (append-nil a.list))

-- ---- which entries answer

not_end : (x y : ℕ) → y < 2 → eqb (x + 2) y ≡ false
not_end x y h = grind (arith, nat_tests)

same_number : (x : ℕ) → eqb x x ≡ true
same_number x = grind (arith, nat_tests)

other_number : (x y : ℕ) → (x ≡ y → ⊥) → eqb (x + 2) (y + 2) ≡ false
other_number x y h = grind (arith, nat_tests)

not_past : (x : ℕ) → eqb 0 (x + 2) ≡ false
not_past x = grind (arith, nat_tests)

fits_along : (ks q xs : List ℕ) → fits (ks ++ q) (symbols ks ++ xs) ≡ fits q xs
fits_along [] q xs = refl
fits_along (k ∷ ks) q xs =
    ap (λ b. cond b (is_last (symbols ks ++ xs)) (eqb (k + 2) (k + 2) && fits (ks ++ q) (symbols ks ++ xs))) (not_end k 1 (omega arith))
    ∙ ap (λ b. b && fits (ks ++ q) (symbols ks ++ xs)) (same_number (k + 2))
    ∙ fits_along ks q xs

fits_past : (t : ℕ) (xs : List ℕ) → fits [] ((t + 2) ∷ xs) ≡ false
fits_past t xs = ap (λ b. b && is_last xs) (not_end t 0 (omega arith))

fits_other : (o t : ℕ) (q xs : List ℕ) → (t ≡ o → ⊥) → fits (o ∷ q) ((t + 2) ∷ xs) ≡ false
fits_other o t q xs h =
    ap (λ b. cond b (is_last xs) (eqb (t + 2) (o + 2) && fits q xs)) (not_end t 1 (omega arith))
    ∙ ap (λ b. b && fits q xs) (other_number t o h)

fits_exact_below : (o : ℕ) (q : List ℕ) → fits (o ∷ q) (0 ∷ []) ≡ false
fits_exact_below o q = ap (λ b. b && fits q []) (not_past o)

-- an entry under a key, of what is behind that key
fits_under : (name q key : List ℕ) (s : ℕ) → Under octet_keys (symbols name) s key → fits (name ++ q) key ≡ fits q (s ∷ drop (length (symbols name) + 1) key)
fits_under name q key s u =
    ap (fits (name ++ q)) (spelled (symbols name) key s u)
    ∙ fits_along name q (s ∷ drop (length (symbols name) + 1) key)

-- a key that parts from the octets
fits_apart : (name octets key : List ℕ) (n : ℕ) → IsCommon name octets n → n < length name → Under octet_keys (symbols (take n name)) (get_or name n 0 + 2) key → fits octets key ≡ false
fits_apart name octets key n c short u =
    let other = get_or name n 0 in
    let front = take n name in
    let len : length front ≡ n = length-take-le n name (omega arith) in
    let joined : octets ≡ front ++ drop n octets = sym (take-append-drop n octets) ∙ ap (λ xs. xs ++ drop n octets) (sym c.same) in
    let rest = drop (length (symbols front) + 1) key in
    elim (drop n octets) as (λ q. octets ≡ front ++ q → fits octets key ≡ false) [
      | [] ↦ λ e. ap (λ xs. fits xs key) e ∙ fits_under front [] key (other + 2) u ∙ fits_past other rest
      | ◌∷◌ o q ↦ λ e.
          let at : get_or octets n 0 ≡ o = ap (λ xs. get_or xs n 0) e ∙ get_or_at front o q 0 n len in
          let total : n < length octets = omega (arith, ap length e, length-append front (o ∷ q)) in
          let apart : other ≡ o → ⊥ = λ same. c.differ short total (omega (arith, same, at)) in
          ap (λ xs. fits xs key) e ∙ fits_under front (o ∷ q) key (other + 2) u ∙ fits_other o other q rest apart
    ] joined

-- ---- the last that answers and acts

pub chained : {X : Type 0} (result below own after before whole : Option X) → result ≡ option_else below after → after ≡ option_else own before → whole ≡ option_else below own → result ≡ option_else whole before
chained result below own after before whole e f w = e ∙ ap (option_else below) f ∙ sym (else_assoc below own before) ∙ ap (λ o. option_else o before) (sym w)

pub settled : {X : Type 0} (result own before whole : Option X) → result ≡ option_else own before → whole ≡ own → result ≡ option_else whole before
settled result own before whole e w = e ∙ ap (λ o. option_else o before) (sym w)

not_both : {V : Type 0} (acts : V → Bool) (b : Bool) (v : V) → b ≡ false → (b && acts v) ≡ false
not_both acts b v e = ap (λ x. x && acts v) e

-- those that act, by a test of their values
module _ {V : Type 0} (acts : V → Bool) where
  abbrev test : List ℕ → List ℕ × V → Bool
  test octets e = fits octets e.0 && acts e.1

  abbrev scan : List ℕ → List (List ℕ × V) → Option (List ℕ × V)
  scan octets es = last_where (test octets) es

  own_fits : (octets key : List ℕ) (v : Option V) → fits octets key ≡ true → scan octets (own key v) ≡ acting acts key v
  own_fits octets key None e = refl
  own_fits octets key (Some v) e = ap (λ b. cond (b && acts v) (Some (key, v)) None) e

  own_not : (octets key : List ℕ) (v : Option V) → fits octets key ≡ false → scan octets (own key v) ≡ None
  own_not octets key None e = refl
  own_not octets key (Some v) e = ap (λ b. cond (b && acts v) (Some (key, v)) None) e

  three : (octets : List ℕ) (xs ys zs : List (List ℕ × V)) → scan octets (xs ++ (ys ++ zs)) ≡ option_else (option_else (scan octets zs) (scan octets ys)) (scan octets xs)
  three octets xs ys zs = last_append (test octets) xs (ys ++ zs) ∙ ap (λ o. option_else o (scan octets xs)) (last_append (test octets) ys zs)

  -- none of what is under some nodes
  none_under : (name octets q : List ℕ) (ks : List (Sub V)) → octets ≡ name ++ q → AllByRecursion (λ k. IsKid (symbols name) k) ks → AllByRecursion (λ k. (xs : List ℕ) → fits q ((k.symbol + 2) ∷ xs) ≡ false) ks → scan octets (joined ks) ≡ None
  none_under name octets q [] e kids all = refl
  none_under name octets q (k ∷ ks) e kids all =
      last_append (test octets) k.list (joined ks)
      ∙ (λ i. option_else (none_under name octets q ks e kids.1 all.1 i)
      (last_none (test octets) k.list (all_map (λ x. Under octet_keys (symbols name) (k.symbol + 2) x.0) (λ x. test octets x ≡ false) k.list
      (λ x u. not_both acts (fits octets x.0) x.1 (ap (λ xs. fits xs x.0) e ∙ fits_under name q x.0 (k.symbol + 2) u ∙ all.0 (drop (length (symbols name) + 1) x.0))) kids.0.list) i))

  all_past : (ks : List (Sub V)) → AllByRecursion (λ k. (xs : List ℕ) → fits [] ((k.symbol + 2) ∷ xs) ≡ false) ks
  all_past [] = tt
  all_past (k ∷ ks) = (λ xs. fits_past k.symbol xs, all_past ks)

  all_less : (o : ℕ) (q : List ℕ) (ks : List (Sub V)) → AllBelow o ks → AllByRecursion (λ k. (xs : List ℕ) → fits (o ∷ q) ((k.symbol + 2) ∷ xs) ≡ false) ks
  all_less o q [] all = tt
  all_less o q (k ∷ ks) all = (λ xs. fits_other o k.symbol q xs (λ e. omega (arith, e, all.0)), all_less o q ks all.1)

  all_more : (o : ℕ) (q : List ℕ) (ks : List (Sub V)) → AllAbove o ks → AllByRecursion (λ k. (xs : List ℕ) → fits (o ∷ q) ((k.symbol + 2) ∷ xs) ≡ false) ks
  all_more o q [] all = tt
  all_more o q (k ∷ ks) all = (λ xs. fits_other o k.symbol q xs (λ e. omega (arith, e, all.0)), all_more o q ks all.1)

  -- ---- at a node

  pub best_apart : (s : Stored V) (n : PlainNode V) (octets : List ℕ) (same : ℕ) (o : Option (List ℕ × V)) → IsNode s n → IsCommon (name_of s.octets n) octets same → same < n.len → o ≡ option_else (scan octets (stands s n).list) o
  best_apart s n octets same o node c lt =
      let name = name_of s.octets n in
      let len = name_length s n node in
      let u : Under octet_keys (symbols (take same name)) (get_or name same 0 + 2) (symbols name) = under_front name same (omega (arith, len)) (omega (arith, len, node.short)) in
      let none : scan octets (stands s n).list ≡ None =
      last_none (test octets) (stands s n).list (all_map (λ e. Begins octet_keys (key_of s.octets n) e.0) (λ e. test octets e ≡ false) (stands s n).list
      (λ e b. not_both acts (fits octets e.0) e.1 (fits_apart name octets e.0 same c (omega (arith, len)) (further octet_keys (list_laws 255) (symbols (take same name)) (symbols name) e.0 (get_or name same 0 + 2) u b)))
      (begins_at s n node)) in
      ap (λ x. option_else x o) (sym none)

  pub best_here : (s : Stored V) (n : PlainNode V) (octets : List ℕ) → IsNode s n → name_of s.octets n ≡ octets → scan octets (stands s n).list ≡ acting acts (entry_key (name_of s.octets n) false) n.exact
  best_here s n octets node e =
      let name = name_of s.octets n in
      let top = key_of s.octets n in
      let ks = kids_of s.subs n in
      let whole : octets ≡ name ++ [] = sym e ∙ sym (append-nil name) in
      let exact : fits octets (top ++ 0 ∷ []) ≡ true = ap (λ xs. fits xs (top ++ 0 ∷ [])) whole ∙ fits_along name [] (0 ∷ []) in
      let wild : fits octets (top ++ 1 ∷ []) ≡ false = ap (λ xs. fits xs (top ++ 1 ∷ [])) whole ∙ fits_along name [] (1 ∷ []) in
      three octets (own (top ++ 0 ∷ []) n.exact) (own (top ++ 1 ∷ []) n.wild) (joined ks)
      ∙ (λ i. option_else (option_else (none_under name octets [] ks whole (each_under s n node) (all_past ks) i) (own_not octets (top ++ 1 ∷ []) n.wild wild i)) (own_fits octets (top ++ 0 ∷ []) n.exact exact i))

  -- the two values where octets go on
  best_two : (name octets q : List ℕ) (o : ℕ) (e w : Option V) (ks : List (Sub V)) → octets ≡ name ++ (o ∷ q) → scan octets (list_of (symbols name) e w ks) ≡ option_else (scan octets (joined ks)) (acting acts (entry_key name true) w)
  best_two name octets q o e w ks whole =
      let top = symbols name in
      let exact : fits octets (top ++ 0 ∷ []) ≡ false = ap (λ xs. fits xs (top ++ 0 ∷ [])) whole ∙ fits_along name (o ∷ q) (0 ∷ []) ∙ fits_exact_below o q in
      let wild : fits octets (top ++ 1 ∷ []) ≡ true = ap (λ xs. fits xs (top ++ 1 ∷ [])) whole ∙ fits_along name (o ∷ q) (1 ∷ []) in
      three octets (own (top ++ 0 ∷ []) e) (own (top ++ 1 ∷ []) w) (joined ks)
      ∙ (λ i. option_else (option_else (scan octets (joined ks)) (own_fits octets (top ++ 1 ∷ []) w wild i)) (own_not octets (top ++ 0 ∷ []) e exact i))
      ∙ else_none (option_else (scan octets (joined ks)) (acting acts (entry_key name true) w))

  joined_scan : (octets : List ℕ) (xs mid ys : List (Sub V)) → scan octets (joined xs) ≡ None → scan octets (joined ys) ≡ None → scan octets (joined (xs ++ (mid ++ ys))) ≡ scan octets (joined mid)
  joined_scan octets xs mid ys ex ey =
      ap (scan octets) (flat_append (λ (x : Sub V). x.list) xs (mid ++ ys) ∙ ap (λ es. joined xs ++ es) (flat_append (λ (x : Sub V). x.list) mid ys))
      ∙ three octets (joined xs) (joined mid) (joined ys)
      ∙ (λ i. option_else (option_else (ey i) (scan octets (joined mid))) (ex i))
      ∙ else_none (scan octets (joined mid))

  pub best_gap : (s : Stored V) (n : PlainNode V) (octets : List ℕ) (place : ℕ) → IsNode s n → GoesOn (name_of s.octets n) octets → GapAt (kids_of s.subs n) (get_or octets (length (name_of s.octets n)) 0) place
      → scan octets (stands s n).list ≡ acting acts (entry_key (name_of s.octets n) true) n.wild
  best_gap s n octets place node goes gap =
      let name = name_of s.octets n in
      let top = key_of s.octets n in
      let ks = kids_of s.subs n in
      let o = get_or octets (length name) 0 in
      let q = drop (length name + 1) octets in
      let xs = take place ks in
      let ys = drop place ks in
      let split : ks ≡ xs ++ ys = sym (take-append-drop place ks) in
      let each = each_kid top 0 (xs ++ ys) (subst (λ zs. AreKids top 0 zs) split node.kids) in
      let none : scan octets (joined ks) ≡ None =
      ap (λ zs. scan octets (joined zs)) split
      ∙ joined_scan octets xs [] ys (none_under name octets (o ∷ q) xs goes (all_first (λ k. IsKid top k) xs ys each) (all_less o q xs gap.below)) (none_under name octets (o ∷ q) ys goes (all_second (λ k. IsKid top k) xs ys each) (all_more o q ys gap.above)) in
      best_two name octets q o n.exact n.wild ks goes ∙ ap (λ x. option_else x (acting acts (entry_key name true) n.wild)) none

  pub best_below : (s : Stored V) (n k : PlainNode V) (octets : List ℕ) (place : ℕ) → IsNode s n → GoesOn (name_of s.octets n) octets → KidAt (kids_of s.subs n) (get_or octets (length (name_of s.octets n)) 0) place → IsAt s (n.kids + place) k
      → scan octets (stands s n).list ≡ option_else (scan octets (stands s k).list) (acting acts (entry_key (name_of s.octets n) true) n.wild)
  best_below s n k octets place node goes kid at =
      let name = name_of s.octets n in
      let top = key_of s.octets n in
      let ks = kids_of s.subs n in
      let o = get_or octets (length name) 0 in
      let q = drop (length name + 1) octets in
      let there = kid_there s n k o place node kid at in
      let xs = take place ks in
      let ys = drop (place + 1) ks in
      let a = stands s k in
      let same : get_or ks place a ≡ a = kid_is s n k place a (omega (arith, kid.within, kids_count s n node)) at in
      let split : ks ≡ xs ++ (a ∷ ys) = parted ks place a kid.within ∙ ap (λ x. xs ++ (x ∷ ys)) same in
      let all : AreKids top 0 (xs ++ (a ∷ ys)) = subst (λ zs. AreKids top 0 zs) split node.kids in
      let each = each_kid top 0 (xs ++ (a ∷ ys)) all in
      let one : scan octets (joined ks) ≡ scan octets a.list =
      ap (λ zs. scan octets (joined zs)) split
      ∙ joined_scan octets xs (a ∷ []) ys
      (none_under name octets (o ∷ q) xs goes (all_first (λ k. IsKid top k) xs (a ∷ ys) each) (all_less o q xs (subst (λ z. AllBelow z xs) there.1 (below_kid top 0 xs ys a all))))
      (none_under name octets (o ∷ q) ys goes (all_second (λ k. IsKid top k) xs (a ∷ ys) each).1 (all_more o q ys (subst (λ z. AllAbove z ys) there.1 (above_kid top 0 xs ys a all))))
      ∙ ap (scan octets) (append-nil a.list) in
      best_two name octets q o n.exact n.wild ks goes ∙ ap (λ x. option_else x (acting acts (entry_key name true) n.wild)) one

-- ---- how far down

module _ {V : Type 0} where
  pub kid_longer : (s : Stored V) (n k : PlainNode V) (t place : ℕ) → IsNode s n → KidAt (kids_of s.subs n) t place → IsAt s (n.kids + place) k → n.len < k.len
  kid_longer s n k t place node kid at =
      let there = kid_there s n k t place node kid at in
      omega (arith, there.0.key.longer, length_symbols (name_of s.octets n), length_symbols (name_of s.octets k), name_length s n node, name_length s k at.node)

  -- a node under another begins with its key and one octet more
  pub kid_begins : (s : Stored V) (n k : PlainNode V) (octets : List ℕ) (place : ℕ) → IsNode s n → GoesOn (name_of s.octets n) octets → KidAt (kids_of s.subs n) (get_or octets (length (name_of s.octets n)) 0) place → IsAt s (n.kids + place) k
      → take (n.len + 1) (name_of s.octets k) ≡ take (n.len + 1) octets
  kid_begins s n k octets place node goes kid at =
      let name = name_of s.octets n in
      let below = name_of s.octets k in
      let o = get_or octets (length name) 0 in
      let there = kid_there s n k o place node kid at in
      let len = name_length s n node in
      let u : Under octet_keys (symbols name) (o + 2) (symbols below) = subst (λ t. Under octet_keys (symbols name) (t + 2) (symbols below)) there.1 there.0.key in
      let more = drop (length (symbols name) + 1) (symbols below) in
      let rest = drop (length name + 1) octets in
      let long : length (symbols name ++ (o + 2) ∷ []) ≡ n.len + 1 = omega (arith, length-append (symbols name) ((o + 2) ∷ []), length_symbols name, len) in
      let same_length : length (name ++ o ∷ []) ≡ n.len + 1 = omega (arith, length-append name (o ∷ []), len) in
      let first : symbols (take (n.len + 1) below) ≡ symbols name ++ (o + 2) ∷ [] =
      sym (take-map (λ (x : ℕ). x + 2) (n.len + 1) below)
      ∙ ap (take (n.len + 1)) (spelled (symbols name) (symbols below) (o + 2) u ∙ sym (append_assoc (symbols name) ((o + 2) ∷ []) more))
      ∙ take_at (symbols name ++ (o + 2) ∷ []) more (n.len + 1) long in
      let second : take (n.len + 1) octets ≡ name ++ o ∷ [] =
      ap (take (n.len + 1)) (goes ∙ sym (append_assoc name (o ∷ []) rest))
      ∙ take_at (name ++ o ∷ []) rest (n.len + 1) same_length in
      unmapped (take (n.len + 1) below) (take (n.len + 1) octets) (first ∙ sym (symbols_append name (o ∷ [])) ∙ ap symbols (sym second))
