-- Copies of nodes stand for what the nodes stand for.
use Rattle.std.proofs.Common.{◌≡◌, ℕ, zero, suc, ◌+◌, ◌<◌, ◌≤◌, Bool, List, [], ◌∷◌, ◌++◌, length, take, drop, get_or, refl, sym, ap, ◌∙◌, subst, arith, append-nil, append_assoc, length-append}
use Rattle.std.proofs.lemmas.List.{map_push, take_more, take_all, take-map, take_at}
use Rattle.octet_trie.specs.Copies.{IsCopied, stands_all, AreAll, AreCopied, IsKeyAt}
use Rattle.octet_trie.specs.ListKeys.{octet_keys, symbols}
use Rattle.octet_trie.specs.Nodes.{PlainNode, Sub, Stored, name_of, key_of, kids_of, list_of, stands, AreKids, IsNode, IsAt, Extends}
use Rattle.octet_trie.specs.Plain.{plain}
use Rattle.octet_trie.specs.declared.node.Node.{Node}
use Rattle.octet_trie.proofs.Numbers.{node_after, stands_after, extends_itself, extends_subs, extends_along}
use Rattle.octet_trie.proofs.Putting.{name_length}
use Rattle.octet_trie.proofs.Searching.{kid_is, kids_count}
use Rattle.octet_trie.proofs.Spelling.{spelled, length_symbols, unmapped}
use Rattle.octet_trie.proofs.Stretches.{stretch_new, stretch_front}
use Rattle.trie_keys.proofs.Entries.{all_append, all_map}
use Rattle.trie_keys.specs.Keys.{Under}
use Rattle.trie_keys.specs.declared.marked.Marked.{Marked}

module _ {N M : Type 0} (present : M → Bool) where
  pub all_after : (old new : Stored (Marked N M)) (nodes : List (Node N M)) → Extends old new → AreAll present old nodes → AreAll present new nodes
  all_after old new nodes e all = all_map (λ n. IsNode old (plain present n)) (λ n. IsNode new (plain present n)) nodes (λ n node. node_after old new (plain present n) e node) all

  pub stands_all_after : (old new : Stored (Marked N M)) (nodes : List (Node N M)) → Extends old new → AreAll present old nodes → stands_all present new nodes ≡ stands_all present old nodes
  stands_all_after old new [] e all = refl
  stands_all_after old new (n ∷ ns) e all = λ i. stands_after old new (plain present n) e all.0 i ∷ stands_all_after old new ns e all.1 i

  -- ---- nodes pushed side by side

  all_at : (s : Stored (Marked N M)) (nodes : List (Node N M)) (place : ℕ) (d : Node N M) → place < length nodes → AreAll present s nodes → IsNode s (plain present (get_or nodes place d))
  all_at s [] place d h all = absurd (omega arith)
  all_at s (n ∷ ns) zero d h all = all.0
  all_at s (n ∷ ns) (suc place) d h all = all_at s ns place d (omega arith) all.1

  pub pushed_none : (s : Stored (Marked N M)) (nodes : List (Node N M)) → s ≡ record s { subs = s.subs ++ stands_all present s (take 0 nodes) }
  pushed_none s nodes = λ i. record { octets = s.octets; subs = sym (append-nil s.subs) i }

  pub push_node : (s cur : Stored (Marked N M)) (nodes : List (Node N M)) (index : ℕ) (n : Node N M) → AreAll present s nodes → index < length nodes → n ≡ get_or nodes index n → cur ≡ record s { subs = s.subs ++ stands_all present s (take index nodes) } → IsNode cur (plain present n)
  push_node s cur nodes index n all h e so_far =
      node_after s cur (plain present n) (extends_subs s cur (stands_all present s (take index nodes)) so_far)
      (subst (λ k. IsNode s (plain present k)) (sym e) (all_at s nodes index n h all))

  pub pushed_more : (s cur new : Stored (Marked N M)) (nodes : List (Node N M)) (index : ℕ) (n : Node N M) → AreAll present s nodes → index < length nodes → n ≡ get_or nodes index n
      → cur ≡ record s { subs = s.subs ++ stands_all present s (take index nodes) } → new ≡ record cur { subs = cur.subs ++ stands cur (plain present n) ∷ [] } → new ≡ record s { subs = s.subs ++ stands_all present s (take (index + 1) nodes) }
  pushed_more s cur new nodes index n all h e so_far pushed =
      let here : IsNode s (plain present n) = subst (λ k. IsNode s (plain present k)) (sym e) (all_at s nodes index n h all) in
      let same : stands cur (plain present n) ≡ stands s (plain present n) = stands_after s cur (plain present n) (extends_subs s cur (stands_all present s (take index nodes)) so_far) here in
      let more : stands_all present s (take index nodes) ++ stands s (plain present n) ∷ [] ≡ stands_all present s (take (index + 1) nodes) =
      sym (map_push (λ (k : Node N M). stands s (plain present k)) (take index nodes) n)
      ∙ ap (stands_all present s) (ap (λ k. take index nodes ++ k ∷ []) e ∙ sym (take_more nodes index n h)) in
      pushed
      ∙ (λ i. record { octets = (so_far i).octets; subs = (so_far i).subs ++ same i ∷ [] })
      ∙ (λ i. record { octets = s.octets; subs = append_assoc s.subs (stands_all present s (take index nodes)) (stands s (plain present n) ∷ []) i })
      ∙ (λ i. record { octets = s.octets; subs = s.subs ++ more i })

  pub pushed_whole : (s cur : Stored (Marked N M)) (nodes : List (Node N M)) (index : ℕ) → length nodes ≤ index → cur ≡ record s { subs = s.subs ++ stands_all present s (take index nodes) } → cur ≡ record s { subs = s.subs ++ stands_all present s nodes }
  pushed_whole s cur nodes index h e = e ∙ (λ i. record { octets = s.octets; subs = s.subs ++ stands_all present s (take_all index nodes h i) })

  -- ---- copies of those under a node

  pub copied_none : (s : Stored (Marked N M)) (nodes : List (Node N M)) (ks : List (Sub (Marked N M))) → nodes ≡ [] → AreCopied present s s nodes (take 0 ks)
  copied_none s nodes ks e = subst (λ ns. AreCopied present s s ns (take 0 ks)) (sym e) (record { extends = extends_itself s; nodes = tt; same = refl })

  pub copied_more : (source old cur new : Stored (Marked N M)) (n k : PlainNode (Marked N M)) (copies more : List (Node N M)) (copy : Node N M) (place : ℕ) → place < n.count → IsNode source n → IsAt source (n.kids + place) k
      → AreCopied present old cur copies (take place (kids_of source.subs n)) → IsCopied source k cur new (plain present copy) → more ≡ copies ++ copy ∷ [] → AreCopied present old new more (take (place + 1) (kids_of source.subs n))
  copied_more source old cur new n k copies more copy place h node at so_far c e =
      let ks = kids_of source.subs n in
      let d = stands source k in
      let item : get_or ks place d ≡ d = kid_is source n k place d h at in
      let within : place < length ks = omega (arith, kids_count source n node) in
      let here : AreCopied present old new (copies ++ copy ∷ []) (take (place + 1) ks) = record {
        extends = extends_along old cur new so_far.extends c.extends;
        nodes = all_append (λ x. IsNode new (plain present x)) copies (copy ∷ []) (all_after cur new copies c.extends so_far.nodes) (c.node, tt);
        same = map_push (λ (x : Node N M). stands new (plain present x)) copies copy
            ∙ (λ i. (stands_all_after cur new copies c.extends so_far.nodes ∙ so_far.same) i ++ (c.sub ∙ sym item) i ∷ [])
            ∙ sym (take_more ks place d within);
      } in
      subst (λ xs. AreCopied present old new xs (take (place + 1) ks)) (sym e) here

  pub copied_whole : (old new : Stored (Marked N M)) (copies : List (Node N M)) (ks : List (Sub (Marked N M))) (place : ℕ) → length ks ≤ place → AreCopied present old new copies (take place ks) → AreCopied present old new copies ks
  copied_whole old new copies ks place h c = subst (λ xs. AreCopied present old new copies xs) (take_all place ks h) c

  -- ---- where the octets of the key are

  first_kid : (into : Stored (Marked N M)) (name : List ℕ) (k : PlainNode (Marked N M)) (t : ℕ) → IsNode into k → Under octet_keys (symbols name) t (key_of into.octets k) → IsKeyAt into into name (length name) k.key
  first_kid into name k t kid u =
      let below = name_of into.octets k in
      let longer : length name < k.len = omega (arith, u.longer, length_symbols name, length_symbols below, name_length into k kid) in
      let more = drop (length (symbols name) + 1) (symbols below) in
      let front : symbols (take (length name) below) ≡ symbols name =
      sym (take-map (λ (x : ℕ). x + 2) (length name) below)
      ∙ ap (take (length name)) (spelled (symbols name) (symbols below) t u)
      ∙ take_at (symbols name) (t ∷ more) (length name) (length_symbols name) in
      record {
        more = [];
        same = λ i. record { octets = sym (append-nil into.octets) i; subs = into.subs };
        whole = record { there = omega (arith, kid.whole.there); whole = omega (arith, kid.whole.whole) };
        read = sym (stretch_front into.octets k.key k.len (length name) (omega arith)) ∙ unmapped (take (length name) below) name front;
      }

  pub key_of_kid : (into : Stored (Marked N M)) (name : List ℕ) (kids : List (Node N M)) (k : Node N M) → AreAll present into kids → AreKids (symbols name) 0 (stands_all present into kids) → 0 < length kids → k ≡ get_or kids 0 k
      → IsKeyAt into into name (length name) k.key
  key_of_kid into name [] k all under h at = absurd (omega arith)
  key_of_kid into name (x ∷ xs) k all under h at =
      subst (λ y. IsKeyAt into into name (length name) y.key) (sym at)
      (first_kid into name (plain present x) (x.symbol + 2) all.0 under.1.0.key)

  -- the name is that of the node
  pub key_of_node : (source old new : Stored (Marked N M)) (n : PlainNode (Marked N M)) (name : List ℕ) (place : ℕ) → IsNode source n → name ≡ name_of source.octets n → IsKeyAt old new name (length name) place → IsKeyAt old new (name_of source.octets n) n.len place
  key_of_node source old new n name place node e at =
      let len : length name ≡ n.len = ap length e ∙ name_length source n node in
      subst (λ k. IsKeyAt old new (name_of source.octets n) k place) len (subst (λ xs. IsKeyAt old new xs (length name) place) e at)

  pub copied_under : (source old new : Stored (Marked N M)) (n : PlainNode (Marked N M)) (name : List ℕ) (copies : List (Node N M)) → IsNode source n → name ≡ name_of source.octets n → AreCopied present old new copies (kids_of source.subs n) → AreKids (symbols name) 0 (stands_all present new copies)
  copied_under source old new n name copies node e c =
      subst (λ ks. AreKids (symbols name) 0 ks) (sym c.same) (subst (λ xs. AreKids (symbols xs) 0 (kids_of source.subs n)) (sym e) node.kids)

  -- ---- the node itself

  pub copied_node : (source old mid keyed new : Stored (Marked N M)) (n m : PlainNode (Marked N M)) (copies : List (Node N M)) (key first : ℕ) → IsNode source n
      → AreCopied present old mid copies (kids_of source.subs n) → IsKeyAt mid keyed (name_of source.octets n) n.len key → first ≡ length keyed.subs
      → new ≡ record keyed { subs = keyed.subs ++ stands_all present keyed copies } → m ≡ record n { key = key; kids = first } → IsCopied source n old new m
  copied_node source old mid keyed new n m copies key first node c at ef stored em =
      let ks = kids_of source.subs n in
      let top = key_of source.octets n in
      let to_keyed : Extends mid keyed = record { octets = at.more; subs = []; same = at.same ∙ (λ i. record { octets = mid.octets ++ at.more; subs = sym (append-nil mid.subs) i }) } in
      let same : stands_all present keyed copies ≡ ks = stands_all_after mid keyed copies to_keyed c.nodes ∙ c.same in
      let new' : Stored (Marked N M) = record { octets = keyed.octets; subs = keyed.subs ++ ks } in
      let m' : PlainNode (Marked N M) = record n { key = key; kids = length keyed.subs } in
      let all : new ≡ new' = stored ∙ (λ i. record { octets = keyed.octets; subs = keyed.subs ++ same i }) in
      let one : m ≡ m' = em ∙ (λ i. record n { key = key; kids = ef i }) in
      let count : length ks ≡ n.count = kids_count source n node in
      let kids : kids_of new'.subs m' ≡ ks = ap (λ k. take k (drop (length keyed.subs) (keyed.subs ++ ks))) (sym count) ∙ stretch_new keyed.subs ks in
      let node' : IsNode new' m' = record {
        whole = at.whole;
        short = node.short;
        within = omega (arith, count, length-append keyed.subs ks);
        kids = subst (λ name. AreKids (symbols name) 0 (kids_of new'.subs m')) (sym at.read) (subst (λ zs. AreKids top 0 zs) (sym kids) node.kids);
      } in
      let sub' : stands new' m' ≡ stands source n = λ i. record { key = symbols (at.read i); symbol = n.symbol; list = list_of (symbols (at.read i)) n.exact n.wild (kids i) } in
      record {
        extends = extends_along old mid new c.extends (extends_along mid keyed new to_keyed (extends_subs keyed new (stands_all present keyed copies) stored));
        node = subst (λ x. IsNode x m) (sym all) (subst (λ y. IsNode new' y) (sym one) node');
        sub = (λ i. stands (all i) (one i)) ∙ sub';
      }

  pub all_keyed : (mid keyed : Stored (Marked N M)) (name : List ℕ) (len key : ℕ) (copies : List (Node N M)) → IsKeyAt mid keyed name len key → AreAll present mid copies → AreAll present keyed copies
  all_keyed mid keyed name len key copies at all =
      all_after mid keyed copies (record { octets = at.more; subs = []; same = at.same ∙ (λ i. record { octets = mid.octets ++ at.more; subs = sym (append-nil mid.subs) i }) }) all
