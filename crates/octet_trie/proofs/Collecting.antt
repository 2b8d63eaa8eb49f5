-- All entries of a node, one part behind another.
use Rattle.std.proofs.Common.{◌≡◌, ℕ, ◌+◌, ◌<◌, ◌≤◌, true, false, List, [], ◌∷◌, ◌++◌, length, take, get_or, sym, ap, ◌∙◌, subst, arith, append-nil, append_assoc}
use Rattle.std.proofs.lemmas.List.{take_more, take_all}
use Rattle.octet_trie.specs.Copies.{IsCopied}
use Rattle.octet_trie.specs.ListKeys.{octet_keys, entry_key}
use Rattle.octet_trie.specs.Nodes.{PlainNode, Sub, Stored, name_of, kids_of, joined, stands, IsNode, IsAt}
use Rattle.octet_trie.specs.Trie.{IsTrie}
use Rattle.octet_trie.proofs.Searching.{kid_is, kids_count}
use Rattle.octet_trie.proofs.Stretches.{flat_append}
use Rattle.trie_keys.specs.Scan.{own}
use Rattle.trie_keys.specs.Sorting.{AreEntries}

module _ {V : Type 0} where
  pub collected_more : (s : Stored V) (n k : PlainNode V) (place : ℕ) (first out new : List (List ℕ × V)) → place < n.count → IsNode s n → IsAt s (n.kids + place) k
      → out ≡ first ++ joined (take place (kids_of s.subs n)) → new ≡ out ++ (stands s k).list → new ≡ first ++ joined (take (place + 1) (kids_of s.subs n))
  collected_more s n k place first out new h node at so_far e =
      let ks = kids_of s.subs n in
      let a = stands s k in
      let item : get_or ks place a ≡ a = kid_is s n k place a h at in
      let within : place < length ks = omega (arith, kids_count s n node) in
      let front : take (place + 1) ks ≡ take place ks ++ a ∷ [] = take_more ks place a within ∙ ap (λ x. take place ks ++ x ∷ []) item in
      e
      ∙ ap (λ es. es ++ a.list) so_far
      ∙ append_assoc first (joined (take place ks)) a.list
      ∙ ap (λ es. first ++ (joined (take place ks) ++ es)) (sym (append-nil a.list))
      ∙ ap (λ es. first ++ es) (sym (flat_append (λ (x : Sub V). x.list) (take place ks) (a ∷ [])))
      ∙ ap (λ xs. first ++ joined xs) (sym front)

  pub collected_whole : (s : Stored V) (n : PlainNode V) (place : ℕ) (old first second out : List (List ℕ × V)) → IsNode s n → n.count ≤ place
      → first ≡ old ++ own (entry_key (name_of s.octets n) false) n.exact → second ≡ first ++ own (entry_key (name_of s.octets n) true) n.wild
      → out ≡ second ++ joined (take place (kids_of s.subs n)) → out ≡ old ++ (stands s n).list
  collected_whole s n place old first second out node h e1 e2 e3 =
      let ks = kids_of s.subs n in
      let exact = own (entry_key (name_of s.octets n) false) n.exact in
      let wild = own (entry_key (name_of s.octets n) true) n.wild in
      e3
      ∙ ap (λ xs. second ++ joined xs) (take_all place ks (omega (arith, kids_count s n node)))
      ∙ ap (λ es. es ++ joined ks) (e2 ∙ ap (λ es. es ++ wild) e1)
      ∙ append_assoc (old ++ exact) wild (joined ks)
      ∙ append_assoc old exact (wild ++ joined ks)

  pub copied_trie : (source old new : Stored V) (n m : PlainNode V) → IsTrie source n → IsCopied source n old new m → IsTrie new m
  copied_trie source old new n m trie c = record {
    node = c.node;
    entries = subst (λ (s : Sub V). AreEntries octet_keys s.list) (sym c.sub) trie.entries;
  }

  pub copied_list : (source old new : Stored V) (n m : PlainNode V) → IsCopied source n old new m → (stands new m).list ≡ (stands source n).list
  copied_list source old new n m c = ap (λ (s : Sub V). s.list) c.sub
