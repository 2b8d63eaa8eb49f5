-- For what the numbers of nodes stand, as octets and nodes come behind others.
use Rattle.std.proofs.Common.{◌≡◌, ℕ, zero, suc, ◌+◌, ◌≤◌, Some, List, [], ◌∷◌, ◌++◌, length, refl, sym, ap, ◌∙◌, subst, arith, slice_get, get_or, length-append, append_assoc, append-nil}
use Rattle.std.proofs.lemmas.List.{get_or_at}
use Rattle.octet_trie.specs.ListKeys.{symbols}
use Rattle.octet_trie.specs.Nodes.{PlainNode, Sub, Stored, name_of, key_of, kids_of, list_of, sub_of, stands, AreKids, IsNode, subs_from, AreNodes, IsAt, Extends}
use Rattle.octet_trie.proofs.Stretches.{stretch_kept}
use Rattle.packed_lists.specs.Octets.{StandsWhole}

some_same : {A : Type 0} (x y : A) → Some x ≡ Some y → x ≡ y
some_same x y e = cc e

pub whole_kept : (octets more : List ℕ) (place count : ℕ) → StandsWhole octets place count → StandsWhole (octets ++ more) place count
whole_kept octets more place count w = record {
  there = omega (arith, w.there, length-append octets more);
  whole = w.whole;
}

module _ {V : Type 0} where
  pub name_kept : (octets more : List ℕ) (n : PlainNode V) → StandsWhole octets n.key n.len → name_of (octets ++ more) n ≡ name_of octets n
  name_kept octets more n w = stretch_kept octets more n.key n.len w.there

  pub kids_kept : (subs more : List (Sub V)) (n : PlainNode V) → n.kids + n.count ≤ length subs → kids_of (subs ++ more) n ≡ kids_of subs n
  kids_kept subs more n h = stretch_kept subs more n.kids n.count h

  sub_octets : (octets more : List ℕ) (subs : List (Sub V)) (n : PlainNode V) → StandsWhole octets n.key n.len → sub_of (octets ++ more) subs n ≡ sub_of octets subs n
  sub_octets octets more subs n w =
      let e = name_kept octets more n w in
      λ i. record { key = symbols (e i); symbol = n.symbol; list = list_of (symbols (e i)) n.exact n.wild (kids_of subs n) }

  sub_subs : (octets : List ℕ) (subs more : List (Sub V)) (n : PlainNode V) → n.kids + n.count ≤ length subs → sub_of octets (subs ++ more) n ≡ sub_of octets subs n
  sub_subs octets subs more n h =
      let e = kids_kept subs more n h in
      λ i. record { key = key_of octets n; symbol = n.symbol; list = list_of (key_of octets n) n.exact n.wild (e i) }

  node_octets : (octets more : List ℕ) (subs : List (Sub V)) (n : PlainNode V) → IsNode (record { octets = octets; subs = subs }) n → IsNode (record { octets = octets ++ more; subs = subs }) n
  node_octets octets more subs n node = record {
    whole = whole_kept octets more n.key n.len node.whole;
    short = node.short;
    within = node.within;
    kids = subst (λ name. AreKids (symbols name) 0 (kids_of subs n)) (sym (name_kept octets more n node.whole)) node.kids;
  }

  node_subs : (octets : List ℕ) (subs more : List (Sub V)) (n : PlainNode V) → IsNode (record { octets = octets; subs = subs }) n → IsNode (record { octets = octets; subs = subs ++ more }) n
  node_subs octets subs more n node = record {
    whole = node.whole;
    short = node.short;
    within = omega (arith, node.within, length-append subs more);
    kids = subst (λ kids. AreKids (key_of octets n) 0 kids) (sym (kids_kept subs more n node.within)) node.kids;
  }

  -- ---- a node and what comes behind

  pub node_after : (old new : Stored V) (n : PlainNode V) → Extends old new → IsNode old n → IsNode new n
  node_after old new n e node =
      subst (λ s. IsNode s n) (sym e.same)
      (node_subs (old.octets ++ e.octets) old.subs e.subs n (node_octets old.octets e.octets old.subs n node))

  pub stands_after : (old new : Stored V) (n : PlainNode V) → Extends old new → IsNode old n → stands new n ≡ stands old n
  stands_after old new n e node =
      ap (λ s. stands s n) e.same
      ∙ sub_subs (old.octets ++ e.octets) old.subs e.subs n node.within
      ∙ sub_octets old.octets e.octets old.subs n node.whole

  pub kids_after : (old new : Stored V) (n : PlainNode V) → Extends old new → IsNode old n → kids_of new.subs n ≡ kids_of old.subs n
  kids_after old new n e node = ap (λ s. kids_of s.subs n) e.same ∙ kids_kept old.subs e.subs n node.within

  pub name_after : (old new : Stored V) (n : PlainNode V) → Extends old new → IsNode old n → name_of new.octets n ≡ name_of old.octets n
  name_after old new n e node = ap (λ s. name_of s.octets n) e.same ∙ name_kept old.octets e.octets n node.whole

  pub extends_itself : (s : Stored V) → Extends s s
  extends_itself s = record {
    octets = [];
    subs = [];
    same = λ i. record { octets = sym (append-nil s.octets) i; subs = sym (append-nil s.subs) i };
  }

  pub extends_subs : (old new : Stored V) (subs : List (Sub V)) → new ≡ record { octets = old.octets; subs = old.subs ++ subs } → Extends old new
  extends_subs old new subs e = record {
    octets = [];
    subs = subs;
    same = e ∙ (λ i. record { octets = sym (append-nil old.octets) i; subs = old.subs ++ subs });
  }

  pub extends_along : (a b c : Stored V) → Extends a b → Extends b c → Extends a c
  extends_along a b c e f = record {
    octets = e.octets ++ f.octets;
    subs = e.subs ++ f.subs;
    same = f.same ∙ (λ i. record { octets = (e.same i).octets ++ f.octets; subs = (e.same i).subs ++ f.subs })
        ∙ (λ i. record { octets = append_assoc a.octets e.octets f.octets i; subs = append_assoc a.subs e.subs f.subs i });
  }

  pub longer_after : (old new : Stored V) → Extends old new → length old.subs ≤ length new.subs
  longer_after old new e = omega (arith, ap (λ s. length s.subs) e.same, length-append old.subs e.subs)

  -- ---- all nodes

  pub subs_push : (octets : List ℕ) (subs : List (Sub V)) (ns : List (PlainNode V)) (n : PlainNode V) → subs_from octets subs (ns ++ n ∷ []) ≡ subs_from octets subs ns ++ sub_of octets (subs_from octets subs ns) n ∷ []
  unfolding subs_from
  subs_push octets subs [] n = refl
  subs_push octets subs (m ∷ ns) n = subs_push octets (subs ++ sub_of octets subs m ∷ []) ns n

  pub nodes_push : (octets : List ℕ) (subs : List (Sub V)) (ns : List (PlainNode V)) (n : PlainNode V) → AreNodes octets subs ns → IsNode (record { octets = octets; subs = subs_from octets subs ns }) n → AreNodes octets subs (ns ++ n ∷ [])
  unfolding AreNodes subs_from
  nodes_push octets subs [] n all here = (here, tt)
  nodes_push octets subs (m ∷ ns) n all here = (all.0, nodes_push octets (subs ++ sub_of octets subs m ∷ []) ns n all.1 here)

  pub nodes_more : (octets more : List ℕ) (subs : List (Sub V)) (ns : List (PlainNode V)) → AreNodes octets subs ns → AreNodes (octets ++ more) subs ns
  unfolding AreNodes
  nodes_more octets more subs [] all = tt
  nodes_more octets more subs (n ∷ ns) all = (
    node_octets octets more subs n all.0,
    subst (λ s. AreNodes (octets ++ more) (subs ++ s ∷ []) ns) (sym (sub_octets octets more subs n all.0.whole))
        (nodes_more octets more (subs ++ sub_of octets subs n ∷ []) ns all.1),
  )

  pub subs_more : (octets more : List ℕ) (subs : List (Sub V)) (ns : List (PlainNode V)) → AreNodes octets subs ns → subs_from (octets ++ more) subs ns ≡ subs_from octets subs ns
  unfolding AreNodes subs_from
  subs_more octets more subs [] all = refl
  subs_more octets more subs (n ∷ ns) all =
      ap (λ s. subs_from (octets ++ more) (subs ++ s ∷ []) ns) (sub_octets octets more subs n all.0.whole)
      ∙ subs_more octets more (subs ++ sub_of octets subs n ∷ []) ns all.1

  pub length_subs : (octets : List ℕ) (subs : List (Sub V)) (ns : List (PlainNode V)) → length (subs_from octets subs ns) ≡ length subs + length ns
  unfolding subs_from
  length_subs octets subs [] = omega arith
  length_subs octets subs (n ∷ ns) = omega (arith, length_subs octets (subs ++ sub_of octets subs n ∷ []) ns, length-append subs (sub_of octets subs n ∷ []))

  -- those that are there come first
  rest_of : (octets : List ℕ) (subs : List (Sub V)) (ns : List (PlainNode V)) → (rest : List (Sub V)) × (subs_from octets subs ns ≡ subs ++ rest)
  unfolding subs_from
  rest_of octets subs [] = ([], sym (append-nil subs))
  rest_of octets subs (n ∷ ns) =
      let more = rest_of octets (subs ++ sub_of octets subs n ∷ []) ns in
      (sub_of octets subs n ∷ more.0, more.1 ∙ append_assoc subs (sub_of octets subs n ∷ []) more.0)

  stood : (octets : List ℕ) (subs : List (Sub V)) (ns : List (PlainNode V)) (place : ℕ) (n : PlainNode V) → AreNodes octets subs ns → slice_get ns place ≡ Some n → IsAt (record { octets = octets; subs = subs_from octets subs ns }) (length subs + place) n
  unfolding AreNodes subs_from
  stood octets subs [] place n all e = cc e
  stood octets subs (m ∷ ns) zero n all e =
      let here : m ≡ n = some_same m n e in
      let node : IsNode (record { octets = octets; subs = subs }) n = subst (λ k. IsNode (record { octets = octets; subs = subs }) k) here all.0 in
      let more = rest_of octets (subs ++ sub_of octets subs m ∷ []) ns in
      let same : subs_from octets (subs ++ sub_of octets subs m ∷ []) ns ≡ subs ++ (sub_of octets subs m ∷ more.0) = more.1 ∙ append_assoc subs (sub_of octets subs m ∷ []) more.0 in
      let at_end : length subs + 0 ≡ length subs = omega arith in
      record {
        within = omega (arith, ap length same, length-append subs (sub_of octets subs m ∷ more.0));
        sub = λ d. ap (λ xs. get_or xs (length subs + 0) d) same
            ∙ get_or_at subs (sub_of octets subs m) more.0 d (length subs + 0) (sym at_end)
            ∙ ap (sub_of octets subs) here
            ∙ sym (sub_subs octets subs (sub_of octets subs m ∷ more.0) n node.within)
            ∙ ap (λ xs. sub_of octets xs n) (sym same);
        node = subst (λ xs. IsNode (record { octets = octets; subs = xs }) n) (sym same) (node_subs octets subs (sub_of octets subs m ∷ more.0) n node);
        earlier = omega (arith, node.within);
      }
  stood octets subs (m ∷ ns) (suc place) n all e =
      let next = subs ++ sub_of octets subs m ∷ [] in
      let one : length next ≡ length subs + 1 = omega (arith, length-append subs (sub_of octets subs m ∷ [])) in
      let same : length next + place ≡ length subs + suc place = omega arith in
      subst (λ number. IsAt (record { octets = octets; subs = subs_from octets next ns }) number n) same (stood octets next ns place n all.1 e)

  pub node_at : (octets : List ℕ) (ns : List (PlainNode V)) (place : ℕ) (n : PlainNode V) → AreNodes octets [] ns → slice_get ns place ≡ Some n → IsAt (record { octets = octets; subs = subs_from octets [] ns }) place n
  node_at octets ns place n all e =
      let none : List (Sub V) = [] in
      let same : length none + place ≡ place = omega arith in
      subst (λ number. IsAt (record { octets = octets; subs = subs_from octets [] ns }) number n) same (stood octets [] ns place n all e)
