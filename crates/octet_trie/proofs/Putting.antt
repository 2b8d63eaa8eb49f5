-- A value at a key.
use Rattle.std.proofs.Common.{◌≡◌, ℕ, ◌+◌, ◌<◌, ◌≤◌, Bool, true, false, cond, Option, Some, None, List, [], ◌∷◌, ◌++◌, length, take, drop, get_or, Result, Ok, Err, IfOk, refl, sym, ap, ◌∙◌, subst, arith, append-nil, length-append}
use Rattle.std.proofs.lemmas.List.{take-append-drop}
use Rattle.std.specs.BTreeMap.{insert_entry}
use Rattle.std.specs.List.{AllByRecursion}
use Rattle.octet_trie.specs.Edits.{KidAt, GapAt, OneKid, GoesOn, IsCommon, Rekid, IsLeaf, IsBranch, Put, with_others}
use Rattle.octet_trie.specs.ListKeys.{octet_keys, symbols, entry_key}
use Rattle.octet_trie.specs.Nodes.{PlainNode, Sub, Stored, name_of, key_of, kids_of, joined, list_of, stands, IsKid, AreKids, IsNode, IsAt, Extends}
use Rattle.octet_trie.specs.Written.{IsWritten}
use Rattle.octet_trie.proofs.Between.{between_insert, insert_own, at_exact, at_wild, at_kids, list_parts, front_of}
use Rattle.octet_trie.proofs.Commons.{middle, goes_from, goes_under, goes_under_entry, parts_at, under_front, whole_common, front_common}
use Rattle.octet_trie.proofs.Kinship.{AllBelow, AllAbove, each_kid, kid_of, below_kid, above_kid, kids_replaced, kids_with}
use Rattle.octet_trie.proofs.ListLaws.{list_laws}
use Rattle.octet_trie.proofs.Numbers.{node_after, stands_after, name_after, kids_after, extends_itself, extends_subs, extends_along}
use Rattle.octet_trie.proofs.Searching.{kid_is, kids_count}
use Rattle.octet_trie.proofs.Spelling.{length_symbols, own_under}
use Rattle.octet_trie.proofs.Stretches.{parted, stretch_new, stretch_front, length_stretch}
use Rattle.trie_keys.proofs.Beginning.{all_further, under_begins}
use Rattle.trie_keys.proofs.Entries.{all_append, all_first, all_second, all_map, all_inserted}
use Rattle.trie_keys.specs.Keys.{Under, Begins}
use Rattle.trie_keys.specs.Scan.{own}

pub told : {A E : Type 0} (r : Result A E) (P Q : A → Type 0) → IfOk r P → ((x : A) → P x → Q x) → IfOk r Q
told (Ok x) P Q h f = f x h
told (Err e) P Q h f = h

module _ {V : Type 0} where
  pub name_length : (s : Stored V) (n : PlainNode V) → IsNode s n → length (name_of s.octets n) ≡ n.len
  name_length s n node = length_stretch s.octets n.key n.len node.whole.there

  pub key_short : (s : Stored V) (n : PlainNode V) → IsNode s n → length (key_of s.octets n) < 255
  key_short s n node = omega (arith, length_symbols (name_of s.octets n), name_length s n node, node.short)

  pub each_under : (s : Stored V) (n : PlainNode V) → IsNode s n → AllByRecursion (λ k. IsKid (key_of s.octets n) k) (kids_of s.subs n)
  each_under s n node = each_kid (key_of s.octets n) 0 (kids_of s.subs n) node.kids

  -- ---- all entries of a node begin with its key

  begins_own : (top : List ℕ) (t : ℕ) (e : Option V) → length top < 255 → AllByRecursion (λ x. Begins octet_keys top x.0) (own (top ++ t ∷ []) e)
  begins_own top t None h = tt
  begins_own top t (Some v) h = (under_begins octet_keys (list_laws 255) top (top ++ t ∷ []) t (own_under top t h), tt)

  begins_joined : (top : List ℕ) (ks : List (Sub V)) → AllByRecursion (λ k. IsKid top k) ks → AllByRecursion (λ x. Begins octet_keys top x.0) (joined ks)
  begins_joined top [] all = tt
  begins_joined top (k ∷ ks) all =
      all_append (λ x. Begins octet_keys top x.0) k.list (joined ks)
      (all_map (λ x. Under octet_keys top (k.symbol + 2) x.0) (λ x. Begins octet_keys top x.0) k.list (λ x u. under_begins octet_keys (list_laws 255) top x.0 (k.symbol + 2) u) all.0.list)
      (begins_joined top ks all.1)

  pub begins_at : (s : Stored V) (n : PlainNode V) → IsNode s n → AllByRecursion (λ x. Begins octet_keys (key_of s.octets n) x.0) (stands s n).list
  begins_at s n node =
      let top = key_of s.octets n in
      all_append (λ x. Begins octet_keys top x.0) (own (top ++ 0 ∷ []) n.exact) (own (top ++ 1 ∷ []) n.wild ++ joined (kids_of s.subs n))
      (begins_own top 0 n.exact (key_short s n node))
      (all_append (λ x. Begins octet_keys top x.0) (own (top ++ 1 ∷ []) n.wild) (joined (kids_of s.subs n))
      (begins_own top 1 n.wild (key_short s n node))
      (begins_joined top (kids_of s.subs n) (each_under s n node)))

  -- a node under another key
  pub kid_under : (s : Stored V) (n : PlainNode V) (top : List ℕ) → IsNode s n → n.symbol < 256 → Under octet_keys top (n.symbol + 2) (key_of s.octets n) → IsKid top (stands s n)
  kid_under s n top node small u = record {
    small = small;
    key = u;
    list = all_further octet_keys (list_laws 255) top (key_of s.octets n) (n.symbol + 2) (stands s n).list u (begins_at s n node);
  }

  -- ---- the same node over others

  pub rekid_node : (s new : Stored V) (n m : PlainNode V) (kids : List (Sub V)) → IsNode s n → Rekid s new n kids m → AreKids (key_of s.octets n) 0 kids → IsNode new m
  rekid_node s new n m kids node r all =
      let new' : Stored V = record { octets = s.octets; subs = s.subs ++ kids } in
      let m' : PlainNode V = record n { kids = length s.subs; count = length kids } in
      let here : IsNode new' m' = record {
        whole = node.whole;
        short = node.short;
        within = omega (arith, length-append s.subs kids);
        kids = subst (λ ks. AreKids (key_of s.octets n) 0 ks) (sym (stretch_new s.subs kids)) all;
      } in
      subst (λ x. IsNode x m) (sym r.stored) (subst (λ y. IsNode new' y) (sym r.node) here)

  pub rekid_stands : (s new : Stored V) (n m : PlainNode V) (kids : List (Sub V)) → Rekid s new n kids m → stands new m ≡ record { key = key_of s.octets n; symbol = n.symbol; list = list_of (key_of s.octets n) n.exact n.wild kids }
  rekid_stands s new n m kids r =
      (λ i. stands (r.stored i) (r.node i))
      ∙ (λ i. record { key = key_of s.octets n; symbol = n.symbol; list = list_of (key_of s.octets n) n.exact n.wild (stretch_new s.subs kids i) })

  pub rekid_name : (s new : Stored V) (n m : PlainNode V) (kids : List (Sub V)) → Rekid s new n kids m → name_of new.octets m ≡ name_of s.octets n
  rekid_name s new n m kids r = λ i. name_of (r.stored i).octets (r.node i)

  -- ---- a value at the node's own key

  valued : (s : Stored V) (n : PlainNode V) (e w : Option V) → IsNode s n → IsNode s (record n { exact = e; wild = w })
  valued s n e w node = record { whole = node.whole; short = node.short; within = node.within; kids = node.kids }

  pub put_here : (s : Stored V) (n : PlainNode V) (wild : Bool) (v : V) → IsNode s n → Put s s n (entry_key (name_of s.octets n) wild) v (cond wild (record n { wild = Some v }) (record n { exact = Some v }))
  put_here s n true v node =
      let top = key_of s.octets n in
      let ks = kids_of s.subs n in
      record {
        extends = extends_itself s;
        node = valued s n n.exact (Some v) node;
        symbol = refl;
        list = sym (between_insert (top ++ 1 ∷ []) v (stands s n).list (own (top ++ 0 ∷ []) n.exact) (own (top ++ 1 ∷ []) n.wild) (joined ks) (at_wild top n.exact n.wild ks (key_short s n node) (each_under s n node))
            ∙ ap (λ es. own (top ++ 0 ∷ []) n.exact ++ (es ++ joined ks)) (insert_own (top ++ 1 ∷ []) n.wild v));
        under = λ t symbol u w. w;
      }
  put_here s n false v node =
      let top = key_of s.octets n in
      let ks = kids_of s.subs n in
      record {
        extends = extends_itself s;
        node = valued s n (Some v) n.wild node;
        symbol = refl;
        list = sym (between_insert (top ++ 0 ∷ []) v (stands s n).list [] (own (top ++ 0 ∷ []) n.exact) (own (top ++ 1 ∷ []) n.wild ++ joined ks) (at_exact top n.exact n.wild ks (key_short s n node) (each_under s n node))
            ∙ ap (λ es. es ++ (own (top ++ 1 ∷ []) n.wild ++ joined ks)) (insert_own (top ++ 0 ∷ []) n.exact v));
        under = λ t symbol u w. w;
      }

  -- ---- a value under the node

  one_joined : (a : Sub V) → joined (a ∷ []) ≡ a.list
  one_joined a = append-nil a.list

  -- one node in place of some, or of none
  put_one : (s new : Stored V) (n m : PlainNode V) (key : List ℕ) (v : V) (t : ℕ) (xs mid ys : List (Sub V)) (b : Sub V) → IsNode s n
      → kids_of s.subs n ≡ xs ++ (mid ++ ys) → AllByRecursion (λ k. IsKid (key_of s.octets n) k) xs → AllByRecursion (λ k. IsKid (key_of s.octets n) k) ys → AllBelow t xs → AllAbove t ys
      → Under octet_keys (key_of s.octets n) (t + 2) key → b.list ≡ insert_entry octet_keys.order (joined mid) key v
      → AreKids (key_of s.octets n) 0 (xs ++ (b ∷ ys)) → Rekid s new n (xs ++ (b ∷ ys)) m → Put s new n key v m
  put_one s new n m key v t xs mid ys b node split kx ky below above u list all r =
      let top = key_of s.octets n in
      record {
        extends = extends_subs s new (xs ++ (b ∷ ys)) r.stored;
        node = rekid_node s new n m (xs ++ (b ∷ ys)) node r all;
        symbol = ap (λ (k : PlainNode V). k.symbol) r.node;
        list = ap (λ (x : Sub V). x.list) (rekid_stands s new n m (xs ++ (b ∷ ys)) r)
            ∙ list_parts top n.exact n.wild xs (b ∷ []) ys
            ∙ ap (λ es. front_of top n.exact n.wild xs ++ (es ++ joined ys)) (one_joined b ∙ list)
            ∙ sym (between_insert key v (list_of top n.exact n.wild (xs ++ (mid ++ ys))) (front_of top n.exact n.wild xs) (joined mid) (joined ys) (at_kids top key t n.exact n.wild xs mid ys (key_short s n node) u kx ky below above))
            ∙ ap (λ ks. insert_entry octet_keys.order (list_of top n.exact n.wild ks) key v) (sym split);
        under = λ tp symbol w x. subst (λ name. Under octet_keys tp symbol (symbols name)) (sym (rekid_name s new n m (xs ++ (b ∷ ys)) r)) x;
      }

  put_kid : (s new : Stored V) (n m : PlainNode V) (key : List ℕ) (v : V) (t place : ℕ) (a b : Sub V) → IsNode s n → place < length (kids_of s.subs n) → get_or (kids_of s.subs n) place a ≡ a → a.symbol ≡ t
      → IsKid (key_of s.octets n) b → b.symbol ≡ t → b.list ≡ insert_entry octet_keys.order a.list key v → Under octet_keys (key_of s.octets n) (t + 2) key
      → Rekid s new n (with_others (kids_of s.subs n) place (b ∷ []) (place + 1)) m → Put s new n key v m
  put_kid s new n m key v t place a b node within same ea kid eb list u r =
      let top = key_of s.octets n in
      let ks = kids_of s.subs n in
      let xs = take place ks in
      let ys = drop (place + 1) ks in
      let split : ks ≡ xs ++ (a ∷ ys) = parted ks place a within ∙ ap (λ k. xs ++ (k ∷ ys)) same in
      let all : AreKids top 0 (xs ++ (a ∷ ys)) = subst (λ zs. AreKids top 0 zs) split node.kids in
      let each = each_kid top 0 (xs ++ (a ∷ ys)) all in
      put_one s new n m key v t xs (a ∷ []) ys b node split
      (all_first (λ k. IsKid top k) xs (a ∷ ys) each) (all_second (λ k. IsKid top k) xs (a ∷ ys) each).1
      (subst (λ z. AllBelow z xs) ea (below_kid top 0 xs ys a all)) (subst (λ z. AllAbove z ys) ea (above_kid top 0 xs ys a all))
      u (list ∙ ap (λ es. insert_entry octet_keys.order es key v) (sym (one_joined a)))
      (kids_replaced top 0 xs ys a b all (eb ∙ sym ea) kid) r

  put_gap : (s new : Stored V) (n m : PlainNode V) (key : List ℕ) (v : V) (t place : ℕ) (b : Sub V) → IsNode s n → GapAt (kids_of s.subs n) t place
      → IsKid (key_of s.octets n) b → b.symbol ≡ t → b.list ≡ (key, v) ∷ [] → Under octet_keys (key_of s.octets n) (t + 2) key
      → Rekid s new n (with_others (kids_of s.subs n) place (b ∷ []) place) m → Put s new n key v m
  put_gap s new n m key v t place b node gap kid eb list u r =
      let top = key_of s.octets n in
      let ks = kids_of s.subs n in
      let xs = take place ks in
      let ys = drop place ks in
      let split : ks ≡ xs ++ ys = sym (take-append-drop place ks) in
      let all : AreKids top 0 (xs ++ ys) = subst (λ zs. AreKids top 0 zs) split node.kids in
      let each = each_kid top 0 (xs ++ ys) all in
      put_one s new n m key v t xs [] ys b node split
      (all_first (λ k. IsKid top k) xs ys each) (all_second (λ k. IsKid top k) xs ys each) gap.below gap.above u list
      (kids_with top 0 xs ys b all (omega arith) kid (subst (λ z. AllBelow z xs) (sym eb) gap.below) (subst (λ z. AllAbove z ys) (sym eb) gap.above)) r

  -- ---- behind what came before

  put_from : (old mid new : Stored V) (n m : PlainNode V) (key : List ℕ) (v : V) → Extends old mid → IsNode old n → Put mid new n key v m → Put old new n key v m
  put_from old mid new n m key v e node p = record {
    extends = extends_along old mid new e p.extends;
    node = p.node;
    symbol = p.symbol;
    list = p.list ∙ ap (λ (x : Sub V). insert_entry octet_keys.order x.list key v) (stands_after old mid n e node);
    under = λ top t u w. p.under top t u (subst (λ name. Under octet_keys top t (symbols name)) (sym (name_after old mid n e node)) w);
  }

  kid_put : (old mid : Stored V) (k k' : PlainNode V) (top key : List ℕ) (v : V) → IsKid top (stands old k) → Put old mid k key v k' → Under octet_keys top (k.symbol + 2) key → IsKid top (stands mid k')
  kid_put old mid k k' top key v kid p u = record {
    small = omega (arith, kid.small, p.symbol);
    key = subst (λ t. Under octet_keys top (t + 2) (key_of mid.octets k')) (sym p.symbol) (p.under top (k.symbol + 2) u kid.key);
    list = subst (λ t. AllByRecursion (λ e. Under octet_keys top (t + 2) e.0) (stands mid k').list) (sym p.symbol)
        (subst (λ es. AllByRecursion (λ e. Under octet_keys top (k.symbol + 2) e.0) es) (sym p.list)
        (all_inserted octet_keys.order (λ x. Under octet_keys top (k.symbol + 2) x) key v (stands old k).list u kid.list));
  }

  pub kid_there : (s : Stored V) (n k : PlainNode V) (t place : ℕ) → IsNode s n → KidAt (kids_of s.subs n) t place → IsAt s (n.kids + place) k → IsKid (key_of s.octets n) (stands s k) × (k.symbol ≡ t)
  kid_there s n k t place node kid at =
      let ks = kids_of s.subs n in
      let d = stands s k in
      let same : get_or ks place d ≡ d = kid_is s n k place d (omega (arith, kid.within, kids_count s n node)) at in
      let split : ks ≡ take place ks ++ (d ∷ drop (place + 1) ks) = parted ks place d kid.within ∙ ap (λ x. take place ks ++ (x ∷ drop (place + 1) ks)) same in (
        kid_of (key_of s.octets n) 0 (take place ks) (drop (place + 1) ks) d (subst (λ zs. AreKids (key_of s.octets n) 0 zs) split node.kids),
        sym (ap (λ (x : Sub V). x.symbol) same) ∙ kid.found d,
      )

  pub put_below : (old mid new : Stored V) (n k k' m : PlainNode V) (key : List ℕ) (v : V) (t place : ℕ) → IsNode old n → KidAt (kids_of old.subs n) t place → IsAt old (n.kids + place) k → Put old mid k key v k'
      → Under octet_keys (key_of old.octets n) (t + 2) key → Rekid mid new n (with_others (kids_of mid.subs n) place (stands mid k' ∷ []) (place + 1)) m → Put old new n key v m
  put_below old mid new n k k' m key v t place node kid at p u r =
      let there = kid_there old n k t place node kid at in
      let top = key_of old.octets n in
      let names : name_of mid.octets n ≡ name_of old.octets n = name_after old mid n p.extends node in
      let kids : kids_of mid.subs n ≡ kids_of old.subs n = kids_after old mid n p.extends node in
      let a = stands old k in
      let b = stands mid k' in
      let u' : Under octet_keys top (k.symbol + 2) key = subst (λ z. Under octet_keys top (z + 2) key) (sym there.1) u in
      put_from old mid new n m key v p.extends node
      (put_kid mid new n m key v t place a b (node_after old mid n p.extends node)
      (subst (λ ks. place < length ks) (sym kids) kid.within)
      (ap (λ ks. get_or ks place a) kids ∙ kid_is old n k place a (omega (arith, kid.within, kids_count old n node)) at)
      there.1
      (subst (λ name. IsKid (symbols name) b) (sym names) (kid_put old mid k k' top key v there.0 p u'))
      (p.symbol ∙ there.1)
      p.list
      (subst (λ name. Under octet_keys (symbols name) (t + 2) key) (sym names) u)
      r)

  pub put_new : (old mid new : Stored V) (n l m : PlainNode V) (octets : List ℕ) (wild : Bool) (v : V) (place : ℕ) → IsNode old n → length octets < 255 → get_or octets n.len 0 < 256 → GoesOn (name_of old.octets n) octets
      → GapAt (kids_of old.subs n) (get_or octets n.len 0) place → IsLeaf old mid octets (get_or octets n.len 0) wild v l
      → Rekid mid new n (with_others (kids_of mid.subs n) place (stands mid l ∷ []) place) m → Put old new n (entry_key octets wild) v m
  put_new old mid new n l m octets wild v place node short small goes gap leaf r =
      let top = key_of old.octets n in
      let t = get_or octets n.len 0 in
      let names : name_of mid.octets n ≡ name_of old.octets n = name_after old mid n leaf.extends node in
      let kids : kids_of mid.subs n ≡ kids_of old.subs n = kids_after old mid n leaf.extends node in
      let here : get_or octets (length (name_of old.octets n)) 0 ≡ t = ap (λ k. get_or octets k 0) (name_length old n node) in
      let u : Under octet_keys top (t + 2) (entry_key octets wild) = subst (λ z. Under octet_keys top (z + 2) (entry_key octets wild)) here (goes_under_entry (name_of old.octets n) octets wild goes short) in
      let w : Under octet_keys top (t + 2) (symbols octets) = subst (λ z. Under octet_keys top (z + 2) (symbols octets)) here (goes_under (name_of old.octets n) octets goes short) in
      let kid : IsKid top (stands mid l) = subst (λ x. IsKid top x) (sym leaf.sub) (record { small = small; key = w; list = (u, tt) }) in
      put_from old mid new n m (entry_key octets wild) v leaf.extends node
      (put_gap mid new n m (entry_key octets wild) v t place (stands mid l) (node_after old mid n leaf.extends node)
      (subst (λ ks. GapAt ks t place) (sym kids) gap)
      (subst (λ name. IsKid (symbols name) (stands mid l)) (sym names) kid)
      (ap (λ (x : Sub V). x.symbol) leaf.sub)
      (ap (λ (x : Sub V). x.list) leaf.sub)
      (subst (λ name. Under octet_keys (symbols name) (t + 2) (entry_key octets wild)) (sym names) u)
      r)

  -- ---- a new node

  pub leaf_is : (old new : Stored V) (octets : List ℕ) (place symbol : ℕ) (wild : Bool) (v : V) (m : PlainNode V) → IsWritten old new octets place → length octets < 255
      → m ≡ record { key = place; len = length octets; symbol = symbol; kids = 0; count = 0; exact = cond wild None (Some v); wild = cond wild (Some v) None } → IsLeaf old new octets symbol wild v m
  leaf_is old new octets place symbol wild v m w short e =
      let n : PlainNode V = record { key = place; len = length octets; symbol = symbol; kids = 0; count = 0; exact = cond wild None (Some v); wild = cond wild (Some v) None } in
      let node : IsNode new n = record { whole = w.stands; short = short; within = omega arith; kids = tt } in
      let listed : (b : Bool) → list_of (symbols octets) (cond b None (Some v)) (cond b (Some v) None) [] ≡ (entry_key octets b, v) ∷ [] = λ b. elim b as (λ z. list_of (symbols octets) (cond z None (Some v)) (cond z (Some v) None) [] ≡ (entry_key octets z, v) ∷ []) [ true ↦ refl | false ↦ refl ] in
      record {
        extends = record { octets = w.more; subs = []; same = w.same ∙ (λ i. record { octets = old.octets ++ w.more; subs = sym (append-nil old.subs) i }) };
        node = subst (λ x. IsNode new x) (sym e) node;
        sub = ap (stands new) e ∙ (λ i. record { key = symbols (w.read i); symbol = symbol; list = list_of (symbols (w.read i)) (cond wild None (Some v)) (cond wild (Some v) None) [] })
            ∙ (λ i. record { key = symbols octets; symbol = symbol; list = listed wild i });
      }

  -- ---- a node above another

  branch_here : (old : Stored V) (n : PlainNode V) (len : ℕ) → IsNode old n → len < n.len → get_or (name_of old.octets n) len 0 < 256
      → IsBranch old (record old { subs = old.subs ++ stands old (record n { symbol = get_or (name_of old.octets n) len 0 }) ∷ [] }) n len (record { key = n.key; len = len; symbol = n.symbol; kids = length old.subs; count = 1; exact = None; wild = None })
  branch_here old n len node short small =
      let name = name_of old.octets n in
      let other = get_or name len 0 in
      let moved : PlainNode V = record n { symbol = other } in
      let x = stands old moved in
      let new : Stored V = record old { subs = old.subs ++ x ∷ [] } in
      let m : PlainNode V = record { key = n.key; len = len; symbol = n.symbol; kids = length old.subs; count = 1; exact = None; wild = None } in
      let names : name_of old.octets m ≡ take len name = sym (stretch_front old.octets n.key n.len len (omega arith)) in
      let kids : kids_of new.subs m ≡ x ∷ [] = stretch_new old.subs (x ∷ []) in
      let moved_node : IsNode old moved = record { whole = node.whole; short = node.short; within = node.within; kids = node.kids } in
      let u : Under octet_keys (symbols (take len name)) (other + 2) (symbols name) = under_front name len (omega (arith, name_length old n node)) (omega (arith, name_length old n node, node.short)) in
      let kid : IsKid (symbols (take len name)) x = kid_under old moved (symbols (take len name)) moved_node small u in
      record {
        extends = extends_subs old new (x ∷ []) refl;
        node = record {
          whole = record { there = omega (arith, node.whole.there); whole = omega (arith, node.whole.whole) };
          short = omega (arith, node.short);
          within = omega (arith, length-append old.subs (x ∷ []));
          kids = subst (λ ks. AreKids (key_of old.octets m) 0 ks) (sym kids) (subst (λ xs. AreKids (symbols xs) 0 (x ∷ [])) (sym names) (omega arith, (kid, tt)));
        };
        symbol = refl;
        len = refl;
        name = names;
        list = ap joined kids ∙ one_joined x;
        kids = record { one = ap length kids; found = λ d. ap (λ ks. (get_or ks 0 d).symbol) kids };
      }

  pub branch_is : (old new : Stored V) (n moved m : PlainNode V) (len : ℕ) (name : List ℕ) → IsNode old n → len < n.len → name ≡ name_of old.octets n → get_or name len 0 < 256 → moved ≡ record n { symbol = get_or name len 0 }
      → new ≡ record old { subs = old.subs ++ stands old moved ∷ [] } → (kids : ℕ) → kids ≡ length old.subs
      → m ≡ record { key = n.key; len = len; symbol = n.symbol; kids = kids; count = 1; exact = None; wild = None } → IsBranch old new n len m
  branch_is old new n moved m len name node short en small em stored kids ek e =
      let here = branch_here old n len node short (subst (λ xs. get_or xs len 0 < 256) en small) in
      let same : moved ≡ record n { symbol = get_or (name_of old.octets n) len 0 } = em ∙ (λ i. record n { symbol = get_or (en i) len 0 }) in
      let all : new ≡ record old { subs = old.subs ++ stands old (record n { symbol = get_or (name_of old.octets n) len 0 }) ∷ [] } = stored ∙ (λ i. record old { subs = old.subs ++ stands old (same i) ∷ [] }) in
      let one : m ≡ record { key = n.key; len = len; symbol = n.symbol; kids = length old.subs; count = 1; exact = None; wild = None } = e ∙ (λ i. record { key = n.key; len = len; symbol = n.symbol; kids = ek i; count = 1; exact = None; wild = None }) in
      subst (λ s. IsBranch old s n len m) (sym all)
      (subst (λ k. IsBranch old (record old { subs = old.subs ++ stands old (record n { symbol = get_or (name_of old.octets n) len 0 }) ∷ [] }) n len k) (sym one) here)

  pub put_whole : (s : Stored V) (n m : PlainNode V) (octets : List ℕ) (wild : Bool) (v : V) → IsNode s n → name_of s.octets n ≡ octets → m ≡ cond wild (record n { wild = Some v }) (record n { exact = Some v }) → Put s s n (entry_key octets wild) v m
  put_whole s n m octets wild v node e em =
      subst (λ x. Put s s n (entry_key octets wild) v x) (sym em)
      (subst (λ xs. Put s s n (entry_key xs wild) v (cond wild (record n { wild = Some v }) (record n { exact = Some v }))) e (put_here s n wild v node))

  -- ---- by what the keys have in common

  pub common_with : (s : Stored V) (n : PlainNode V) (name octets : List ℕ) (same : ℕ) → name ≡ name_of s.octets n → IsCommon name octets same → IsCommon (name_of s.octets n) octets same
  common_with s n name octets same e c = subst (λ xs. IsCommon xs octets same) e c

  pub same_key : (s : Stored V) (n : PlainNode V) (octets : List ℕ) (same : ℕ) → IsNode s n → IsCommon (name_of s.octets n) octets same → n.len ≤ same → length octets ≤ same → name_of s.octets n ≡ octets
  same_key s n octets same node c here there = whole_common (name_of s.octets n) octets same c (omega (arith, name_length s n node)) there

  pub same_len : (s : Stored V) (n : PlainNode V) (octets : List ℕ) (same : ℕ) → IsNode s n → IsCommon (name_of s.octets n) octets same → n.len ≤ same → same ≡ n.len
  same_len s n octets same node c here = omega (arith, c.here, name_length s n node)

  pub key_goes : (s : Stored V) (n : PlainNode V) (octets : List ℕ) (same : ℕ) → IsNode s n → IsCommon (name_of s.octets n) octets same → n.len ≤ same → same < length octets → GoesOn (name_of s.octets n) octets
  key_goes s n octets same node c here there =
      let len = name_length s n node in
      goes_from (name_of s.octets n) octets (front_common (name_of s.octets n) octets same c (omega (arith, len))) (omega (arith, len))

  pub key_under : (s : Stored V) (n : PlainNode V) (octets : List ℕ) (wild : Bool) (same : ℕ) → IsNode s n → IsCommon (name_of s.octets n) octets same → n.len ≤ same → same < length octets → length octets < 255
      → Under octet_keys (key_of s.octets n) (get_or octets same 0 + 2) (entry_key octets wild)
  key_under s n octets wild same node c here there short =
      let e : length (name_of s.octets n) ≡ same = name_length s n node ∙ sym (same_len s n octets same node c here) in
      subst (λ k. Under octet_keys (key_of s.octets n) (get_or octets k 0 + 2) (entry_key octets wild)) e
      (goes_under_entry (name_of s.octets n) octets wild (key_goes s n octets same node c here there) short)

  pub gap_first : (ks : List (Sub V)) (t other : ℕ) → OneKid ks other → t < other → GapAt ks t 0
  gap_first [] t other one lt = absurd (omega (arith, one.one))
  gap_first (k ∷ []) t other one lt = record { within = omega arith; below = tt; above = (omega (arith, one.found k), tt) }
  gap_first (k ∷ (l ∷ ks)) t other one lt = absurd (omega (arith, one.one))

  pub gap_last : (ks : List (Sub V)) (t other : ℕ) → OneKid ks other → other < t → GapAt ks t 1
  gap_last [] t other one lt = absurd (omega (arith, one.one))
  gap_last (k ∷ []) t other one lt = record { within = omega arith; below = (omega (arith, one.found k), tt); above = tt }
  gap_last (k ∷ (l ∷ ks)) t other one lt = absurd (omega (arith, one.one))

  pub put_branched : (old mid new : Stored V) (n b m : PlainNode V) (octets : List ℕ) (wild : Bool) (v : V) (len : ℕ) → IsNode old n → length octets < 255 → IsCommon (name_of old.octets n) octets len → len < n.len
      → IsBranch old mid n len b → Put mid new b (entry_key octets wild) v m → Put old new n (entry_key octets wild) v m
  put_branched old mid new n b m octets wild v len node short common lt br p =
      let name = name_of old.octets n in
      let parts = parts_at name octets wild len common (omega (arith, name_length old n node)) (omega (arith, name_length old n node, node.short)) short in
      record {
        extends = extends_along old mid new br.extends p.extends;
        node = p.node;
        symbol = p.symbol ∙ br.symbol;
        list = p.list ∙ ap (λ es. insert_entry octet_keys.order es (entry_key octets wild) v) br.list;
        under = λ top t u w. p.under top t u
            (subst (λ xs. Under octet_keys top t (symbols xs)) (sym br.name)
            (middle octet_keys (list_laws 255) top (symbols (take len name)) (entry_key octets wild) (symbols name) parts.symbol (get_or name len 0 + 2) t parts.valid parts.entry parts.node parts.apart u w));
      }
