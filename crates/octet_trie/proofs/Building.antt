-- Nodes made of entries stand for these.
use Rattle.std.proofs.Common.{◌≡◌, ℕ, zero, suc, ◌+◌, ◌-◌, ◌<◌, ◌≤◌, Bool, true, false, Option, Some, None, List, [], ◌∷◌, ◌++◌, length, take, drop, get_or, map, refl, sym, ap, ◌∙◌, subst, arith, append-nil, append_assoc, length-append}
use Rattle.std.proofs.lemmas.List.{map_push, take_all, take_more, take-take, take-append-drop, drop-drop, drop_all, drop_more, get_or-take, length-take-le}
use Rattle.std.specs.BTreeMap.{insert_entry}
use Rattle.std.specs.List.{AllByRecursion}
use Rattle.octet_trie.specs.Copies.{stands_all, IsKeyAt}
use Rattle.octet_trie.specs.Edits.{IsCommon}
use Rattle.octet_trie.specs.ListKeys.{octet_keys, symbols, entry_key}
use Rattle.octet_trie.specs.Listed.{AllBeginWith, AreInOrder, AreListed, AreShort, HasOctetAt, entries_from}
use Rattle.octet_trie.specs.Made.{some_count, with_own, IsMade, IsKidMade, AreKidsMade}
use Rattle.octet_trie.specs.Nodes.{PlainNode, Sub, Stored, name_of, kids_of, joined, list_of, stands, AreKids, IsNode, Extends}
use Rattle.octet_trie.specs.Plain.{plain}
use Rattle.octet_trie.specs.Trie.{IsTrie, found_entry}
use Rattle.octet_trie.specs.declared.node.Node.{Node}
use Rattle.octet_trie.specs.declared.trie.OctetFound.{OctetFound}
use Rattle.octet_trie.proofs.Commons.{goes_from, goes_under}
use Rattle.octet_trie.proofs.Copying.{all_after, stands_all_after}
use Rattle.octet_trie.proofs.ListLaws.{list_laws}
use Rattle.octet_trie.proofs.Kinship.{AllBelow, few_kids, kids_with}
use Rattle.octet_trie.proofs.Numbers.{extends_itself, extends_subs, extends_along}
use Rattle.octet_trie.proofs.Orders.{all_at, stretch_alike}
use Rattle.octet_trie.proofs.Putting.{name_length, kid_under}
use Rattle.octet_trie.proofs.Stretches.{flat_append, map_length, stretch_new}
use Rattle.octet_trie.proofs.Tries.{valid_entry}
use Rattle.trie_keys.proofs.Entries.{all_append, all_map}
use Rattle.trie_keys.specs.Keys.{Under}
use Rattle.trie_keys.specs.Filling.{with_all}
use Rattle.trie_keys.proofs.Filling.{with_sorted}
use Rattle.trie_keys.specs.Scan.{own}
use Rattle.trie_keys.specs.Sorting.{AreEntries}
use Rattle.trie_keys.specs.declared.marked.Marked.{Marked}

-- ---- octets

begin_length : (n : ℕ) (xs top : List ℕ) → take n xs ≡ top → length top ≡ n → n ≤ length xs
begin_length n xs top e h = omega (arith, ap length e, length-append (take n xs) (drop n xs), ap length (take-append-drop n xs))

no_less : (a b : List ℕ) (m n : ℕ) → IsCommon a b n → take m a ≡ take m b → m ≤ length a → m ≤ length b → m ≤ n
no_less a b m n c e ha hb =
    let short : n < m → ⊥ = λ lt. c.differ (omega (arith, lt)) (omega (arith, lt))
    (sym (get_or-take m a n 0 lt) ∙ ap (λ xs. get_or xs n 0) e ∙ get_or-take m b n 0 lt) in
    omega (arith, short)

one_octet_more : (a b : List ℕ) (n : ℕ) → take n a ≡ take n b → n < length a → n < length b → get_or a n 0 ≡ get_or b n 0 → take (n + 1) a ≡ take (n + 1) b
one_octet_more a b n e ha hb same = take_more a n 0 ha ∙ (λ i. e i ++ same i ∷ []) ∙ sym (take_more b n 0 hb)

module _ {N M : Type 0} where
  item_at : (es : List (OctetFound N M)) (k : ℕ) (d e : OctetFound N M) → k < length es → get_or es k d ≡ get_or es k e
  item_at [] k d e h = absurd (omega arith)
  item_at (x ∷ xs) zero d e h = refl
  item_at (x ∷ xs) (suc k) d e h = item_at xs k d e (omega (arith, h))

  -- ---- what all entries begin with

  -- the octets with which the first and the last of them begin
  pub record Named (es : List (OctetFound N M)) (top name : List ℕ) (n : ℕ) : Type 0 where
    pub begin : AllBeginWith name es
    pub short : length name < 255
    pub long : length top ≤ length name
    pub begins : take (length top) name ≡ top
    pub size : length name ≡ n

  pub named : (present : M → Bool) (es : List (OctetFound N M)) (first last : OctetFound N M) (top : List ℕ) (n : ℕ) → 0 < length es → AreListed present es → AllBeginWith top es
      → first ≡ get_or es 0 first → last ≡ get_or es (length es - 1) last → IsCommon first.key.now last.key.now n → Named es top (take n first.key.now) n
  named present es first last top n some l begin ef el c =
      let a = first.key.now in
      let b = last.key.now in
      let end = length es - 1 in
      let is_last : get_or es end first ≡ last = item_at es end first last (omega (arith, some)) ∙ sym el in
      let top_a : take (length top) a ≡ top = subst (λ (e : OctetFound N M). take (length top) e.key.now ≡ top) (sym ef) (all_at (λ (e : OctetFound N M). take (length top) e.key.now ≡ top) es 0 first some begin) in
      let top_b : take (length top) b ≡ top = subst (λ (e : OctetFound N M). take (length top) e.key.now ≡ top) is_last (all_at (λ (e : OctetFound N M). take (length top) e.key.now ≡ top) es end first (omega (arith, some)) begin) in
      let short_a : length a ≤ 254 = subst (λ (e : OctetFound N M). length e.key.now ≤ 254) (sym ef) (all_at (λ (e : OctetFound N M). length e.key.now ≤ 254) es 0 first some l.short) in
      let size : length (take n a) ≡ n = length-take-le n a c.here in
      let here : length top ≤ n = no_less a b (length top) n c (top_a ∙ sym top_b) (begin_length (length top) a top top_a refl) (begin_length (length top) b top top_b refl) in
      let alike = stretch_alike es 0 end n (length es) first (take n a) l.in_order (omega arith) (omega (arith, some)) (omega (arith, some))
      (subst (λ (e : OctetFound N M). n ≤ length e.key.now) ef c.here)
      (ap (λ (e : OctetFound N M). take n e.key.now) (sym ef))
      (ap (λ (e : OctetFound N M). take n e.key.now) is_last ∙ sym c.same) in
      let all : AllByRecursion (λ (e : OctetFound N M). take n e.key.now ≡ take n a) es = subst (λ xs. AllByRecursion (λ (e : OctetFound N M). take n e.key.now ≡ take n a) xs) (take_all (length es) es (omega arith)) alike in
      record {
        begin = subst (λ k. AllByRecursion (λ (e : OctetFound N M). take k e.key.now ≡ take n a) es) (sym size) all;
        short = omega (arith, size, short_a, c.here);
        long = omega (arith, size, here);
        begins = take-take (length top) n a here ∙ top_a;
        size = size;
      }

  -- those from one that goes on with an octet up to the last that does
  pub stretched : (present : M → Bool) (es : List (OctetFound N M)) (d : OctetFound N M) (name : List ℕ) (number last count symbol : ℕ) → AreListed present es → AllBeginWith name es → number < length es
      → length name < length (get_or es number d).key.now → symbol ≡ get_or (get_or es number d).key.now (length name) 0 → number ≤ last → HasOctetAt es last (length name) symbol → count ≡ last + 1 - number
      → AllBeginWith (take (length name + 1) (get_or es number d).key.now) (take count (drop number es))
  stretched present es d name number last count symbol l begin h longer es' le has ec =
      let n = length name in
      let a = (get_or es number d).key.now in
      let b = (get_or es last d).key.now in
      let begin_a : take n a ≡ name = all_at (λ (e : OctetFound N M). take n e.key.now ≡ name) es number d h begin in
      let begin_b : take n b ≡ name = all_at (λ (e : OctetFound N M). take n e.key.now ≡ name) es last d has.within begin in
      let there = has.here d in
      let same : take (n + 1) a ≡ take (n + 1) b = one_octet_more a b n (begin_a ∙ sym begin_b) longer there.longer (sym es' ∙ sym there.same) in
      let size : length (take (n + 1) a) ≡ n + 1 = length-take-le (n + 1) a (omega (arith, longer)) in
      subst (λ k. AllByRecursion (λ (e : OctetFound N M). take k e.key.now ≡ take (n + 1) a) (take count (drop number es))) (sym size)
      (stretch_alike es number last (n + 1) count d (take (n + 1) a) l.in_order le has.within ec (omega (arith, longer)) refl (sym same))

  map_append : (xs ys : List (OctetFound N M)) → map found_entry (xs ++ ys) ≡ map found_entry xs ++ map found_entry ys
  map_append [] ys = refl
  map_append (x ∷ xs) ys = ap (λ zs. found_entry x ∷ zs) (map_append xs ys)

  entries_parts : (es : List (OctetFound N M)) (number end count : ℕ) → end ≡ number + count → map found_entry (take count (drop number es)) ++ entries_from end es ≡ entries_from number es
  entries_parts es number end count e =
      ap (λ k. map found_entry (take count (drop number es)) ++ entries_from k es) e
      ∙ ap (λ ys. map found_entry (take count (drop number es)) ++ map found_entry ys) (sym (drop-drop count number es))
      ∙ sym (map_append (take count (drop number es)) (drop count (drop number es)))
      ∙ ap (map found_entry) (take-append-drop count (drop number es))

  -- ---- one node under a name

  pub kid_made : (old new : Stored (Marked N M)) (name a : List ℕ) (symbol low : ℕ) (es : List (OctetFound N M)) (number end count : ℕ) (m : PlainNode (Marked N M))
      → IsMade old new (take (length name + 1) a) symbol (map found_entry (take count (drop number es))) m → take (length name) a ≡ name → length name < length a
      → symbol ≡ get_or a (length name) 0 → low ≤ symbol → end ≡ number + count → IsKidMade old new name low (entries_from number es) (entries_from end es) m
  kid_made old new name a symbol low es number end count m made begin longer ea rises e =
      let n = length name in
      let nm = name_of new.octets m in
      let size : length (take (n + 1) a) ≡ n + 1 = length-take-le (n + 1) a (omega (arith, longer)) in
      let front : take (n + 1) nm ≡ take (n + 1) a = ap (λ k. take k nm) (sym size) ∙ made.begins in
      let long : n + 1 ≤ length nm = begin_length (n + 1) nm (take (n + 1) a) front size in
      let begins : take n nm ≡ name = sym (take-take n (n + 1) nm (omega arith)) ∙ ap (take n) front ∙ take-take n (n + 1) a (omega arith) ∙ begin in
      let next : get_or nm n 0 ≡ m.symbol = sym (get_or-take (n + 1) nm n 0 (omega arith)) ∙ ap (λ xs. get_or xs n 0) front ∙ get_or-take (n + 1) a n 0 (omega arith) ∙ sym ea ∙ sym made.symbol_is in
      let u : Under octet_keys (symbols name) (get_or nm n 0 + 2) (symbols nm) = goes_under name nm (goes_from name nm begins (omega (arith, long))) (omega (arith, name_length new m made.node, made.node.short)) in
      record {
        extends = made.extends;
        node = made.node;
        kid = kid_under new m (symbols name) made.node made.small (subst (λ t. Under octet_keys (symbols name) (t + 2) (symbols nm)) next u);
        rises = omega (arith, rises, made.symbol_is);
        list = ap (λ xs. xs ++ entries_from end es) made.list ∙ entries_parts es number end count e;
      }

module _ {N M : Type 0} (present : M → Bool) where
  -- ---- nodes side by side under a name

  pub kids_none : (s : Stored (Marked N M)) (name : List ℕ) (entries : List (List ℕ × Marked N M)) (kids : List (Node N M)) → kids ≡ []
      → AreKidsMade present s s name entries entries kids × AllBelow 0 (stands_all present s kids)
  kids_none s name entries kids e =
      subst (λ ks. AreKidsMade present s s name entries entries ks × AllBelow 0 (stands_all present s ks)) (sym e)
      (record { extends = extends_itself s; nodes = tt; under = tt; list = refl }, tt)

  below_on : (t u : ℕ) (xs : List (Sub (Marked N M))) → t ≤ u → AllBelow t xs → AllBelow u xs
  below_on t u xs h all = all_map (λ (k : Sub (Marked N M)). k.symbol < t) (λ (k : Sub (Marked N M)). k.symbol < u) xs (λ k lt. omega (arith, lt, h)) all

  pub kids_more : (old cur new : Stored (Marked N M)) (name : List ℕ) (low high : ℕ) (entries behind rest : List (List ℕ × Marked N M)) (kids more : List (Node N M)) (k : Node N M)
      → AreKidsMade present old cur name entries behind kids → AllBelow low (stands_all present cur kids) → IsKidMade cur new name low behind rest (plain present k) → more ≡ kids ++ k ∷ [] → high ≡ k.symbol + 1
      → AreKidsMade present old new name entries rest more × AllBelow high (stands_all present new more)
  kids_more old cur new name low high entries behind rest kids more k so_far below made e eh =
      let b = stands new (plain present k) in
      let xs = stands_all present cur kids in
      let kept : stands_all present new kids ≡ xs = stands_all_after present cur new kids made.extends so_far.nodes in
      let all : stands_all present new (kids ++ k ∷ []) ≡ xs ++ b ∷ [] = map_push (λ (x : Node N M). stands new (plain present x)) kids k ∙ ap (λ ys. ys ++ b ∷ []) kept in
      let list : joined (xs ++ b ∷ []) ++ rest ≡ entries =
      ap (λ es. es ++ rest) (flat_append (λ (s : Sub (Marked N M)). s.list) xs (b ∷ []) ∙ ap (λ es. joined xs ++ es) (append-nil b.list))
      ∙ append_assoc (joined xs) b.list rest
      ∙ ap (λ es. joined xs ++ es) made.list
      ∙ so_far.list in
      let under : AreKids (symbols name) 0 (xs ++ b ∷ []) = kids_with (symbols name) 0 xs [] b (subst (λ ys. AreKids (symbols name) 0 ys) (sym (append-nil xs)) so_far.under) (omega arith) made.kid (below_on low b.symbol xs made.rises below) tt in
      let both : AreKidsMade present old new name entries rest (kids ++ k ∷ []) × AllBelow high (stands_all present new (kids ++ k ∷ [])) = (
        record {
          extends = extends_along old cur new so_far.extends made.extends;
          nodes = all_append (λ (x : Node N M). IsNode new (plain present x)) kids (k ∷ []) (all_after present cur new kids made.extends so_far.nodes) (made.node, tt);
          under = subst (λ ys. AreKids (symbols name) 0 ys) (sym all) under;
          list = ap (λ ys. joined ys ++ rest) all ∙ list;
        },
        subst (λ ys. AllBelow high ys) (sym all) (all_append (λ (x : Sub (Marked N M)). x.symbol < high) xs (b ∷ []) (below_on low high xs (omega (arith, eh, made.rises)) below) (omega (arith, eh), tt)),
      ) in
      subst (λ ks. AreKidsMade present old new name entries rest ks × AllBelow high (stands_all present new ks)) (sym e) both

  pub few_made : (s : Stored (Marked N M)) (name : List ℕ) (kids : List (Node N M)) → AreKids (symbols name) 0 (stands_all present s kids) → length kids ≤ 256
  few_made s name kids under = omega (arith, few_kids (symbols name) (stands_all present s kids) under, map_length (λ (n : Node N M). stands s (plain present n)) kids)

  -- ---- the node itself

  owned : (key len symbol : ℕ) (exact wild : Option (Marked N M)) → with_own (with_own (record { key = key; len = len; symbol = symbol; kids = 0; count = 0; exact = None; wild = None }) false exact) true wild
      ≡ record { key = key; len = len; symbol = symbol; kids = 0; count = 0; exact = exact; wild = wild }
  owned key len symbol None None = refl
  owned key len symbol None (Some w) = refl
  owned key len symbol (Some v) None = refl
  owned key len symbol (Some v) (Some w) = refl

  pub made_node : (key len symbol place count size : ℕ) (exact wild : Option (Marked N M)) (n0 n1 n2 m : PlainNode (Marked N M)) → n0 ≡ record { key = key; len = len; symbol = symbol; kids = 0; count = 0; exact = None; wild = None }
      → n1 ≡ with_own n0 false exact → n2 ≡ with_own n1 true wild → m ≡ record n2 { kids = place; count = count } → count ≡ size
      → m ≡ record { key = key; len = len; symbol = symbol; kids = place; count = size; exact = exact; wild = wild }
  made_node key len symbol place count size exact wild n0 n1 n2 m e0 e1 e2 em ec =
      let same = e2 ∙ ap (λ n. with_own n true wild) (e1 ∙ ap (λ n. with_own n false exact) e0) ∙ owned key len symbol exact wild in
      em ∙ (λ i. record (same i) { kids = place; count = ec i })

  pub node_made : (old mid keyed new : Stored (Marked N M)) (es : List (OctetFound N M)) (top name : List ℕ) (n symbol key place behind start : ℕ) (exact wild : Option (Marked N M)) (kids : List (Node N M)) (m : PlainNode (Marked N M))
      → symbol < 256 → Named es top name n → AreKidsMade present old mid name (entries_from start es) [] kids → IsKeyAt mid keyed name (length name) key
      → entries_from 0 es ≡ own (entry_key name false) exact ++ entries_from (0 + some_count exact) es → behind ≡ some_count exact
      → entries_from behind es ≡ own (entry_key name true) wild ++ entries_from (behind + some_count wild) es → start ≡ behind + some_count wild
      → place ≡ length keyed.subs → new ≡ record keyed { subs = keyed.subs ++ stands_all present keyed kids }
      → m ≡ record { key = key; len = n; symbol = symbol; kids = place; count = length kids; exact = exact; wild = wild } → IsMade old new top symbol (map found_entry es) m
  node_made old mid keyed new es top name n symbol key place behind start exact wild kids m small nm made at first ef second es' ep stored em =
      let to_keyed : Extends mid keyed = record { octets = at.more; subs = []; same = at.same ∙ (λ i. record { octets = mid.octets ++ at.more; subs = sym (append-nil mid.subs) i }) } in
      let ks = stands_all present mid kids in
      let same : stands_all present keyed kids ≡ ks = stands_all_after present mid keyed kids to_keyed made.nodes in
      let new' : Stored (Marked N M) = record { octets = keyed.octets; subs = keyed.subs ++ ks } in
      let m' : PlainNode (Marked N M) = record { key = key; len = n; symbol = symbol; kids = length keyed.subs; count = length kids; exact = exact; wild = wild } in
      let all : new ≡ new' = stored ∙ (λ i. record { octets = keyed.octets; subs = keyed.subs ++ same i }) in
      let one : m ≡ m' = em ∙ (λ i. record { key = key; len = n; symbol = symbol; kids = ep i; count = length kids; exact = exact; wild = wild }) in
      let count : length ks ≡ length kids = map_length (λ (x : Node N M). stands mid (plain present x)) kids in
      let read : name_of new'.octets m' ≡ name = ap (λ k. take k (drop key keyed.octets)) (sym nm.size) ∙ at.read in
      let under' : kids_of new'.subs m' ≡ ks = ap (λ k. take k (drop (length keyed.subs) (keyed.subs ++ ks))) (sym count) ∙ stretch_new keyed.subs ks in
      let node' : IsNode new' m' = record {
        whole = record { there = omega (arith, at.whole.there, nm.size); whole = omega (arith, at.whole.whole, nm.size) };
        short = omega (arith, nm.short, nm.size);
        within = omega (arith, count, length-append keyed.subs ks);
        kids = subst (λ xs. AreKids (symbols xs) 0 (kids_of new'.subs m')) (sym read) (subst (λ zs. AreKids (symbols name) 0 zs) (sym under') made.under);
      } in
      let under_list : joined ks ≡ entries_from start es = sym (append-nil (joined ks)) ∙ made.list in
      let list' : (stands new' m').list ≡ map found_entry es =
      (λ i. list_of (symbols (read i)) exact wild (under' i))
      ∙ ap (λ xs. own (entry_key name false) exact ++ (own (entry_key name true) wild ++ xs)) (under_list ∙ ap (λ k. entries_from k es) es')
      ∙ ap (λ xs. own (entry_key name false) exact ++ xs) (sym second)
      ∙ ap (λ k. own (entry_key name false) exact ++ entries_from k es) (ef ∙ omega arith)
      ∙ sym first in
      record {
        extends = extends_along old mid new made.extends (extends_along mid keyed new to_keyed (extends_subs keyed new (stands_all present keyed kids) stored));
        node = subst (λ x. IsNode x m) (sym all) (subst (λ y. IsNode new' y) (sym one) node');
        symbol_is = ap (λ (x : PlainNode (Marked N M)). x.symbol) one;
        small = omega (arith, small, ap (λ (x : PlainNode (Marked N M)). x.symbol) one);
        begins = ap (take (length top)) ((λ i. name_of (all i).octets (one i)) ∙ read) ∙ nm.begins;
        list = (λ i. (stands (all i) (one i)).list) ∙ list';
      }

-- ---- a trie of them

module _ {N M : Type 0} where
  pub all_begin : (es : List (OctetFound N M)) → AllBeginWith [] es
  all_begin [] = tt
  all_begin (e ∷ es) = (refl, all_begin es)

  all_valid : (es : List (OctetFound N M)) → AreShort es → AllByRecursion (λ e. octet_keys.valid e.0 ≡ true) (map found_entry es)
  all_valid [] all = tt
  all_valid (e ∷ es) all = (valid_entry e.key.now e.wild all.0, all_valid es all.1)

  pub made_trie : (old new : Stored (Marked N M)) (top : List ℕ) (symbol : ℕ) (es : List (OctetFound N M)) (m : PlainNode (Marked N M)) → AreShort es → AreInOrder es → IsMade old new top symbol (map found_entry es) m → IsTrie new m
  made_trie old new top symbol es m short in_order made = record {
    node = made.node;
    entries = subst (λ xs. AreEntries octet_keys xs) (sym made.list) (record { valid = all_valid es short; sorted = in_order });
  }

  pub made_list : (old new : Stored (Marked N M)) (top : List ℕ) (symbol : ℕ) (es : List (OctetFound N M)) (m : PlainNode (Marked N M)) → AreInOrder es → IsMade old new top symbol (map found_entry es) m → (stands new m).list ≡ with_all octet_keys.order [] (map found_entry es)
  made_list old new top symbol es m in_order made = made.list ∙ sym (with_sorted octet_keys.order (list_laws 255).total [] (map found_entry es) in_order)

  -- the entries put in one by one
  pub filled_more : (trie next : List (List ℕ × Marked N M)) (es : List (OctetFound N M)) (index : ℕ) (e : OctetFound N M) (whole : List (List ℕ × Marked N M)) → index < length es → e ≡ get_or es index e
      → with_all octet_keys.order trie (entries_from index es) ≡ whole → next ≡ insert_entry octet_keys.order trie (found_entry e).0 e.value → with_all octet_keys.order next (entries_from (index + 1) es) ≡ whole
  filled_more trie next es index e whole h item so_far put =
      let rest : entries_from index es ≡ found_entry e ∷ entries_from (index + 1) es = ap (map found_entry) (drop_more es index e h ∙ ap (λ x. x ∷ drop (index + 1) es) (sym item)) in
      ap (λ t. with_all octet_keys.order t (entries_from (index + 1) es)) put
      ∙ ap (with_all octet_keys.order trie) (sym rest)
      ∙ so_far

  pub filled_whole : (trie : List (List ℕ × Marked N M)) (es : List (OctetFound N M)) (index : ℕ) (whole : List (List ℕ × Marked N M)) → length es ≤ index → with_all octet_keys.order trie (entries_from index es) ≡ whole → trie ≡ whole
  filled_whole trie es index whole h so_far =
      ap (λ xs. with_all octet_keys.order trie (map found_entry xs)) (sym (drop_all index es h)) ∙ so_far

  pub item_all : (P : OctetFound N M → Type 0) (es : List (OctetFound N M)) (index : ℕ) (e : OctetFound N M) → index < length es → e ≡ get_or es index e → AllByRecursion P es → P e
  item_all P es index e h item all = subst P (sym item) (all_at P es index e h all)
