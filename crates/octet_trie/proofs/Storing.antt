-- What a pool of octets and a list of nodes come to, as either grows.
use Rattle.std.proofs.Common.{◌≡◌, ℕ, zero, suc, Bool, Some, List, [], ◌∷◌, ◌++◌, length, take, drop, map, sym, ap, ◌∙◌, subst, arith, slice_get, length-append, append_assoc}
use Rattle.std.proofs.lemmas.List.{map_push, drop_at, take_all}
use Rattle.octet_trie.specs.Nodes.{Stored, stands, IsNode, subs_from, AreNodes, IsAt}
use Rattle.octet_trie.specs.Plain.{plain}
use Rattle.octet_trie.specs.Written.{stored, AreStored, IsWritten}
use Rattle.octet_trie.specs.declared.node.Node.{Node}
use Rattle.octet_trie.proofs.Numbers.{length_subs, node_at, nodes_push, subs_push, nodes_more, subs_more}
use Rattle.octet_trie.proofs.Stretches.{map_length}
use Rattle.packed_lists.specs.Octets.{IsPut}
use Rattle.trie_keys.specs.declared.marked.Marked.{Marked}

module _ {X Y : Type 0} (f : X → Y) where
  get_map : (xs : List X) (place : ℕ) (x : X) → slice_get xs place ≡ Some x → slice_get (map f xs) place ≡ Some (f x)
  get_map [] place x e = cc e
  get_map (y ∷ ys) zero x e = let same : y ≡ x = cc e in ap (λ z. Some (f z)) same
  get_map (y ∷ ys) (suc place) x e = get_map ys place x e

read_back : (octets new string : List ℕ) (place : ℕ) → IsPut octets new string place → take (length string) (drop place new) ≡ string
read_back octets new string place put =
    let at : place ≡ length (octets ++ put.fill) = omega (arith, put.start, length-append octets put.fill) in
    ap (λ o. take (length string) (drop place o)) (put.list ∙ sym (append_assoc octets put.fill string))
    ∙ ap (take (length string)) (drop_at (octets ++ put.fill) string place (sym at))
    ∙ take_all (length string) string (omega arith)

module _ {N M : Type 0} (present : M → Bool) where
  pub stored_len : (octets : List ℕ) (nodes : List (Node N M)) (s : Stored (Marked N M)) → stored present octets nodes ≡ s → length nodes ≡ length s.subs
  stored_len octets nodes s e =
      omega (arith, ap (λ t. length t.subs) e, length_subs octets [] (map (plain present) nodes), map_length (plain present) nodes)

  pub stored_none : (octets : List ℕ) (nodes : List (Node N M)) → nodes ≡ [] → AreStored present octets nodes
  unfolding AreNodes
  stored_none octets nodes e = subst (λ ns. AreStored present octets ns) (sym e) tt

  pub stored_new : (octets : List ℕ) (nodes : List (Node N M)) → octets ≡ [] → nodes ≡ [] → stored present octets nodes ≡ record { octets = []; subs = [] }
  unfolding subs_from
  stored_new octets nodes o e = λ i. stored present (o i) (e i)

  pub stored_at : (octets : List ℕ) (nodes : List (Node N M)) (s : Stored (Marked N M)) (place : ℕ) (n : Node N M) → AreStored present octets nodes → stored present octets nodes ≡ s → slice_get nodes place ≡ Some n → IsAt s place (plain present n)
  stored_at octets nodes s place n all view e =
      subst (λ t. IsAt t place (plain present n)) view (node_at octets (map (plain present) nodes) place (plain present n) all (get_map (plain present) nodes place n e))

  pub pushed_well : (octets : List ℕ) (nodes new : List (Node N M)) (s : Stored (Marked N M)) (n : Node N M) → AreStored present octets nodes → stored present octets nodes ≡ s → IsNode s (plain present n) → new ≡ nodes ++ n ∷ [] → AreStored present octets new
  pushed_well octets nodes new s n all view node e =
      subst (λ ns. AreNodes octets [] ns) (sym (ap (map (plain present)) e ∙ map_push (plain present) nodes n))
      (nodes_push octets [] (map (plain present) nodes) (plain present n) all (subst (λ t. IsNode t (plain present n)) (sym view) node))

  pub pushed_is : (octets : List ℕ) (nodes new : List (Node N M)) (s : Stored (Marked N M)) (n : Node N M) → stored present octets nodes ≡ s → new ≡ nodes ++ n ∷ [] → stored present octets new ≡ record s { subs = s.subs ++ stands s (plain present n) ∷ [] }
  pushed_is octets nodes new s n view e =
      (λ i. record { octets = octets; subs = (ap (λ ns. subs_from octets [] (map (plain present) ns)) e ∙ ap (subs_from octets []) (map_push (plain present) nodes n) ∙ subs_push octets [] (map (plain present) nodes) (plain present n)) i })
      ∙ (λ i. record (view i) { subs = (view i).subs ++ stands (view i) (plain present n) ∷ [] })

  pub written_well : (octets new string : List ℕ) (place : ℕ) (nodes : List (Node N M)) → AreStored present octets nodes → IsPut octets new string place → AreStored present new nodes
  written_well octets new string place nodes all put =
      subst (λ o. AreStored present o nodes) (sym put.list) (nodes_more octets (put.fill ++ string) [] (map (plain present) nodes) all)

  pub written_is : (octets new string : List ℕ) (place : ℕ) (nodes : List (Node N M)) (s : Stored (Marked N M)) → AreStored present octets nodes → stored present octets nodes ≡ s → IsPut octets new string place → IsWritten s (stored present new nodes) string place
  written_is octets new string place nodes s all view put =
      let same : stored present new nodes ≡ record { octets = octets ++ (put.fill ++ string); subs = (stored present octets nodes).subs } =
      (λ i. stored present (put.list i) nodes)
      ∙ (λ i. record { octets = octets ++ (put.fill ++ string); subs = subs_more octets (put.fill ++ string) [] (map (plain present) nodes) all i }) in
      record {
        more = put.fill ++ string;
        same = same ∙ (λ i. record { octets = (view i).octets ++ (put.fill ++ string); subs = (view i).subs });
        stands = put.stands;
        read = read_back octets new string place put;
      }
