-- A key taken out.
use Rattle.std.proofs.Common.{◌≡◌, ℕ, ◌+◌, ◌<◌, Bool, true, false, cond, Option, Some, None, List, [], ◌∷◌, ◌++◌, length, take, drop, get_or, refl, sym, ap, ◌∙◌, subst, arith, append-nil, IfSome}
use Rattle.std.proofs.lemmas.List.{take-append-drop}
use Rattle.std.specs.BTreeMap.{is_at}
use Rattle.std.specs.List.{AllByRecursion}
use Rattle.std.specs.Map.{remove_entry}
use Rattle.std.specs.declared.cmp.Ordering.TheVariants.{Equal}
use Rattle.octet_trie.specs.Edits.{KidAt, GapAt, IsCommon, Rekid, Taken, IsInPlace, IsLifted, subs_if, with_others}
use Rattle.octet_trie.specs.ListKeys.{octet_keys, symbols, entry_key}
use Rattle.octet_trie.specs.Nodes.{PlainNode, Sub, Stored, name_of, key_of, kids_of, joined, list_of, stands, IsKid, AreKids, IsNode, IsAt, Extends}
use Rattle.octet_trie.specs.Plain.{plain}
use Rattle.octet_trie.specs.declared.node.Node.{Node}
use Rattle.octet_trie.proofs.Between.{between_remove, remove_own, at_exact, at_wild, at_kids, list_parts, front_of}
use Rattle.octet_trie.proofs.Commons.{parts_at}
use Rattle.octet_trie.proofs.Kinship.{AllBelow, AllAbove, each_kid, below_kid, above_kid, kids_replaced, kids_without}
use Rattle.octet_trie.proofs.ListLaws.{list_laws}
use Rattle.octet_trie.proofs.Numbers.{node_after, stands_after, name_after, kids_after, extends_itself, extends_subs, extends_along}
use Rattle.octet_trie.proofs.Putting.{name_length, key_short, each_under, begins_at, kid_under, kid_there, rekid_node, rekid_stands, rekid_name}
use Rattle.octet_trie.proofs.Searching.{kid_is, kids_count}
use Rattle.octet_trie.proofs.Stretches.{parted}
use Rattle.trie_keys.proofs.Beginning.{under_begins, further}
use Rattle.trie_keys.proofs.Entries.{all_first, all_second, all_map, remove_absent}
use Rattle.trie_keys.specs.Keys.{Keys, KeyLaws, Under, Begins}
use Rattle.trie_keys.specs.Scan.{own}
use Rattle.trie_keys.specs.declared.marked.Marked.{Marked}

module _ {K : Type 0} (keys : Keys K) (laws : KeyLaws keys) where
  -- what begins with a key that parts from another isn't the other
  pub not_other : (mid top key e : K) (s t : ℕ) → Under keys mid s key → Under keys mid t top → (s ≡ t → ⊥) → Begins keys top e → keys.order key e ≡ Equal → ⊥
  not_other mid top key e s t u w apart b tied =
      let same : e ≡ key = sym (laws.same key e tied) in
      let here : Under keys mid t e = further keys laws mid top e t w b in
      apart (sym u.next ∙ ap (λ k. keys.symbol k (keys.len mid)) (sym same) ∙ here.next)

abbrev remaining : {V : Type 0} → List ℕ → List (List ℕ × V) → List (List ℕ × V)
remaining key es = remove_entry (is_at (octet_keys.order key)) es

module _ {V : Type 0} where
  -- no entry of the node has the key
  pub none_apart : (s : Stored V) (n : PlainNode V) (octets : List ℕ) (wild : Bool) (same : ℕ) → IsNode s n → IsCommon (name_of s.octets n) octets same → same < n.len → length octets < 255
      → AllByRecursion (λ e. octet_keys.order (entry_key octets wild) e.0 ≡ Equal → ⊥) (stands s n).list
  none_apart s n octets wild same node c lt short =
      let name = name_of s.octets n in
      let parts = parts_at name octets wild same c (omega (arith, name_length s n node)) (omega (arith, name_length s n node, node.short)) short in
      all_map (λ e. Begins octet_keys (key_of s.octets n) e.0) (λ e. octet_keys.order (entry_key octets wild) e.0 ≡ Equal → ⊥) (stands s n).list
      (λ e b. not_other octet_keys (list_laws 255) (symbols (take same name)) (symbols name) (entry_key octets wild) e.0 parts.symbol (get_or name same 0 + 2) parts.entry parts.node parts.apart b)
      (begins_at s n node)

  pub take_none : (s : Stored V) (n : PlainNode V) (key : List ℕ) → IsNode s n → remaining key (stands s n).list ≡ (stands s n).list → Taken s s n key n
  take_none s n key node e = record {
    extends = extends_itself s;
    node = node;
    symbol = refl;
    name = refl;
    list = sym e;
  }

  pub take_apart : (s : Stored V) (n : PlainNode V) (octets : List ℕ) (wild : Bool) (same : ℕ) → IsNode s n → IsCommon (name_of s.octets n) octets same → same < n.len → length octets < 255 → Taken s s n (entry_key octets wild) n
  take_apart s n octets wild same node c lt short =
      take_none s n (entry_key octets wild) node
      (remove_absent octet_keys.order (entry_key octets wild) (stands s n).list (none_apart s n octets wild same node c lt short))

  -- ---- the node's own key

  without : (s : Stored V) (n : PlainNode V) (wild : Bool) → IsNode s n → Taken s s n (entry_key (name_of s.octets n) wild) (cond wild (record n { wild = None }) (record n { exact = None }))
  without s n true node =
      let top = key_of s.octets n in
      let ks = kids_of s.subs n in
      record {
        extends = extends_itself s;
        node = record { whole = node.whole; short = node.short; within = node.within; kids = node.kids };
        symbol = refl;
        name = refl;
        list = sym (between_remove (top ++ 1 ∷ []) (stands s n).list (own (top ++ 0 ∷ []) n.exact) (own (top ++ 1 ∷ []) n.wild) (joined ks) (at_wild top n.exact n.wild ks (key_short s n node) (each_under s n node))
            ∙ ap (λ es. own (top ++ 0 ∷ []) n.exact ++ (es ++ joined ks)) (remove_own (top ++ 1 ∷ []) n.wild));
      }
  without s n false node =
      let top = key_of s.octets n in
      let ks = kids_of s.subs n in
      record {
        extends = extends_itself s;
        node = record { whole = node.whole; short = node.short; within = node.within; kids = node.kids };
        symbol = refl;
        name = refl;
        list = sym (between_remove (top ++ 0 ∷ []) (stands s n).list [] (own (top ++ 0 ∷ []) n.exact) (own (top ++ 1 ∷ []) n.wild ++ joined ks) (at_exact top n.exact n.wild ks (key_short s n node) (each_under s n node))
            ∙ ap (λ es. es ++ (own (top ++ 1 ∷ []) n.wild ++ joined ks)) (remove_own (top ++ 0 ∷ []) n.exact));
      }

  pub take_whole : (s : Stored V) (n m : PlainNode V) (octets : List ℕ) (wild : Bool) → IsNode s n → name_of s.octets n ≡ octets → m ≡ cond wild (record n { wild = None }) (record n { exact = None }) → Taken s s n (entry_key octets wild) m
  take_whole s n m octets wild node e em =
      subst (λ x. Taken s s n (entry_key octets wild) x) (sym em)
      (subst (λ xs. Taken s s n (entry_key xs wild) (cond wild (record n { wild = None }) (record n { exact = None }))) e (without s n wild node))

  -- ---- a key under the node

  pub take_gap : (s : Stored V) (n : PlainNode V) (key : List ℕ) (t place : ℕ) → IsNode s n → GapAt (kids_of s.subs n) t place → Under octet_keys (key_of s.octets n) (t + 2) key → Taken s s n key n
  take_gap s n key t place node gap u =
      let top = key_of s.octets n in
      let ks = kids_of s.subs n in
      let xs = take place ks in
      let ys = drop place ks in
      let split : ks ≡ xs ++ ys = sym (take-append-drop place ks) in
      let each = each_kid top 0 (xs ++ ys) (subst (λ zs. AreKids top 0 zs) split node.kids) in
      take_none s n key node
      (ap (λ zs. remaining key (list_of top n.exact n.wild zs)) split
      ∙ between_remove key (list_of top n.exact n.wild (xs ++ ([] ++ ys))) (front_of top n.exact n.wild xs) [] (joined ys) (at_kids top key t n.exact n.wild xs [] ys (key_short s n node) u (all_first (λ k. IsKid top k) xs ys each) (all_second (λ k. IsKid top k) xs ys each) gap.below gap.above)
      ∙ sym (list_parts top n.exact n.wild xs [] ys)
      ∙ ap (list_of top n.exact n.wild) (sym split))

  -- some in place of the one at the place
  take_some : (s new : Stored V) (n m : PlainNode V) (key : List ℕ) (t place : ℕ) (a : Sub V) (mids : List (Sub V)) → IsNode s n → place < length (kids_of s.subs n) → get_or (kids_of s.subs n) place a ≡ a → a.symbol ≡ t
      → AreKids (key_of s.octets n) 0 (with_others (kids_of s.subs n) place mids (place + 1)) → joined mids ≡ remaining key a.list → Under octet_keys (key_of s.octets n) (t + 2) key
      → Rekid s new n (with_others (kids_of s.subs n) place mids (place + 1)) m → Taken s new n key m
  take_some s new n m key t place a mids node within same ea all' list u r =
      let top = key_of s.octets n in
      let ks = kids_of s.subs n in
      let xs = take place ks in
      let ys = drop (place + 1) ks in
      let split : ks ≡ xs ++ (a ∷ ys) = parted ks place a within ∙ ap (λ k. xs ++ (k ∷ ys)) same in
      let all : AreKids top 0 (xs ++ (a ∷ ys)) = subst (λ zs. AreKids top 0 zs) split node.kids in
      let each = each_kid top 0 (xs ++ (a ∷ ys)) all in
      record {
        extends = extends_subs s new (with_others ks place mids (place + 1)) r.stored;
        node = rekid_node s new n m (with_others ks place mids (place + 1)) node r all';
        symbol = ap (λ (k : PlainNode V). k.symbol) r.node;
        name = rekid_name s new n m (with_others ks place mids (place + 1)) r;
        list = ap (λ (x : Sub V). x.list) (rekid_stands s new n m (with_others ks place mids (place + 1)) r)
            ∙ list_parts top n.exact n.wild xs mids ys
            ∙ ap (λ es. front_of top n.exact n.wild xs ++ (es ++ joined ys)) (list ∙ ap (remaining key) (sym (append-nil a.list)))
            ∙ sym (between_remove key (list_of top n.exact n.wild (xs ++ ((a ∷ []) ++ ys))) (front_of top n.exact n.wild xs) (joined (a ∷ [])) (joined ys) (at_kids top key t n.exact n.wild xs (a ∷ []) ys (key_short s n node) u (all_first (λ k. IsKid top k) xs (a ∷ ys) each) (all_second (λ k. IsKid top k) xs (a ∷ ys) each).1 (subst (λ z. AllBelow z xs) ea (below_kid top 0 xs ys a all)) (subst (λ z. AllAbove z ys) ea (above_kid top 0 xs ys a all))))
            ∙ ap (λ zs. remaining key (list_of top n.exact n.wild zs)) (sym split);
      }

  take_from : (old mid new : Stored V) (n m : PlainNode V) (key : List ℕ) → Extends old mid → IsNode old n → Taken mid new n key m → Taken old new n key m
  take_from old mid new n m key e node p = record {
    extends = extends_along old mid new e p.extends;
    node = p.node;
    symbol = p.symbol;
    name = p.name ∙ name_after old mid n e node;
    list = p.list ∙ ap (λ (x : Sub V). remaining key x.list) (stands_after old mid n e node);
  }

  -- ---- what stands in place of a node

  pub in_place_itself : (s : Stored V) (n : PlainNode V) → IsNode s n → IsInPlace s n n
  in_place_itself s n node = record { node = node; symbol = refl; list = refl; under = λ top t u. u }

  first_only : (ks : List (Sub V)) (a : Sub V) → length ks ≡ 1 → get_or ks 0 a ≡ a → ks ≡ a ∷ []
  first_only [] a e same = absurd (omega (arith, e))
  first_only (k ∷ []) a e same = ap (λ x. x ∷ []) same
  first_only (k ∷ (l ∷ ks)) a e same = absurd (omega (arith, e))

  no_kids : (ks : List (Sub V)) → length ks ≡ 0 → ks ≡ []
  no_kids [] e = refl
  no_kids (k ∷ ks) e = absurd (omega (arith, e))

  pub lifted_none : (s : Stored V) (n : PlainNode V) → IsNode s n → n.exact ≡ None → n.wild ≡ None → n.count ≡ 0 → (stands s n).list ≡ []
  lifted_none s n node e w c =
      let top = key_of s.octets n in
      let kids = no_kids (kids_of s.subs n) (kids_count s n node ∙ c) in
      λ i. list_of top (e i) (w i) (kids i)

  pub lifted_kid : (s : Stored V) (n k m : PlainNode V) → IsNode s n → n.exact ≡ None → n.wild ≡ None → n.count ≡ 1 → IsAt s (n.kids + 0) k → m ≡ record k { symbol = n.symbol } → IsInPlace s n m
  lifted_kid s n k m node e w c at em =
      let top = key_of s.octets n in
      let a = stands s k in
      let same : get_or (kids_of s.subs n) 0 a ≡ a = kid_is s n k 0 a (omega (arith, c)) at in
      let kids : kids_of s.subs n ≡ a ∷ [] = first_only (kids_of s.subs n) a (kids_count s n node ∙ c) same in
      let kid : IsKid top a = (each_kid top 0 (a ∷ []) (subst (λ zs. AreKids top 0 zs) kids node.kids)).0 in
      let list : (stands s n).list ≡ a.list = (λ i. list_of top (e i) (w i) (kids i)) ∙ append-nil a.list in
      let m' : PlainNode V = record k { symbol = n.symbol } in
      let here : IsInPlace s n m' = record {
        node = record { whole = at.node.whole; short = at.node.short; within = at.node.within; kids = at.node.kids };
        symbol = refl;
        list = sym list;
        under = λ tp t u. further octet_keys (list_laws 255) tp top (key_of s.octets k) t u (under_begins octet_keys (list_laws 255) top (key_of s.octets k) (k.symbol + 2) kid.key);
      } in
      subst (λ x. IsInPlace s n x) (sym em) here

  -- ---- a node that was taken from, and lifted

  kid_taken : (old mid : Stored V) (k k' m : PlainNode V) (top key : List ℕ) → IsKid top (stands old k) → IsNode old k → Taken old mid k key k' → IsInPlace mid k' m → IsKid top (stands mid m)
  kid_taken old mid k k' m top key kid node p i =
      let es : m.symbol ≡ k.symbol = i.symbol ∙ p.symbol in
      let u : Under octet_keys top (k.symbol + 2) (key_of mid.octets k') = subst (λ name. Under octet_keys top (k.symbol + 2) (symbols name)) (sym p.name) kid.key in
      let w : Under octet_keys top (m.symbol + 2) (key_of mid.octets m) = subst (λ t. Under octet_keys top (t + 2) (key_of mid.octets m)) (sym es) (i.under top (k.symbol + 2) u) in
      kid_under mid m top i.node (omega (arith, kid.small, es)) w

module _ {N M : Type 0} (present : M → Bool) where
  lifted_joined : (s : Stored (Marked N M)) (n : PlainNode (Marked N M)) (m : Option (Node N M)) → IsLifted present s n m → joined (subs_if present s m) ≡ (stands s n).list
  lifted_joined s n None e = sym e
  lifted_joined s n (Some m) i = append-nil (stands s (plain present m)).list ∙ i.list

  pub lifted_node : (s : Stored (Marked N M)) (n : PlainNode (Marked N M)) (m : Option (Node N M)) → IsLifted present s n m → IfSome m (λ k. IsNode s (plain present k))
  lifted_node s n None e = tt
  lifted_node s n (Some m) i = i.node

  lifted_kids : (old mid : Stored (Marked N M)) (k k' : PlainNode (Marked N M)) (m : Option (Node N M)) (top key : List ℕ) (xs ys : List (Sub (Marked N M))) → IsKid top (stands old k) → IsNode old k → Taken old mid k key k' → IsLifted present mid k' m
      → AreKids top 0 (xs ++ (stands old k ∷ ys)) → AreKids top 0 (xs ++ (subs_if present mid m ++ ys))
  lifted_kids old mid k k' None top key xs ys kid node p e all = kids_without top 0 xs ys (stands old k) all
  lifted_kids old mid k k' (Some m) top key xs ys kid node p i all = kids_replaced top 0 xs ys (stands old k) (stands mid (plain present m)) all (i.symbol ∙ p.symbol) (kid_taken old mid k k' (plain present m) top key kid node p i)

  pub take_below : (old mid new : Stored (Marked N M)) (n k k' : PlainNode (Marked N M)) (l : Option (Node N M)) (m : PlainNode (Marked N M)) (key : List ℕ) (t place : ℕ) → IsNode old n → KidAt (kids_of old.subs n) t place → IsAt old (n.kids + place) k → Taken old mid k key k'
      → IsLifted present mid k' l → Under octet_keys (key_of old.octets n) (t + 2) key → Rekid mid new n (with_others (kids_of mid.subs n) place (subs_if present mid l) (place + 1)) m → Taken old new n key m
  take_below old mid new n k k' l m key t place node kid at p lifted u r =
      let there = kid_there old n k t place node kid at in
      let top = key_of old.octets n in
      let ks = kids_of old.subs n in
      let names : name_of mid.octets n ≡ name_of old.octets n = name_after old mid n p.extends node in
      let kids : kids_of mid.subs n ≡ ks = kids_after old mid n p.extends node in
      let a = stands old k in
      let mids = subs_if present mid l in
      let same : get_or ks place a ≡ a = kid_is old n k place a (omega (arith, kid.within, kids_count old n node)) at in
      let split : ks ≡ take place ks ++ (a ∷ drop (place + 1) ks) = parted ks place a kid.within ∙ ap (λ x. take place ks ++ (x ∷ drop (place + 1) ks)) same in
      let all : AreKids top 0 (with_others ks place mids (place + 1)) = lifted_kids old mid k k' l top key (take place ks) (drop (place + 1) ks) there.0 at.node p lifted (subst (λ zs. AreKids top 0 zs) split node.kids) in
      take_from old mid new n m key p.extends node
      (take_some mid new n m key t place a mids (node_after old mid n p.extends node)
      (subst (λ zs. place < length zs) (sym kids) kid.within)
      (ap (λ zs. get_or zs place a) kids ∙ same)
      there.1
      (subst (λ name. AreKids (symbols name) 0 (with_others (kids_of mid.subs n) place mids (place + 1))) (sym names) (subst (λ zs. AreKids top 0 (with_others zs place mids (place + 1))) (sym kids) all))
      (lifted_joined mid k' l lifted ∙ p.list)
      (subst (λ name. Under octet_keys (symbols name) (t + 2) key) (sym names) u)
      r)
