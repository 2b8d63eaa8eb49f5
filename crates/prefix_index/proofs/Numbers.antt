-- For what the numbers of nodes stand, as nodes come behind others.
use Rattle.std.proofs.Common.{◌≡◌, ℕ, zero, suc, ◌+◌, ◌<◌, ◌≤◌, Some, List, [], ◌∷◌, ◌++◌, ◌⊎◌, inl, length, refl, sym, ap, ◌∙◌, subst, arith, slice_get, length-append, add-zero}
use Rattle.std.proofs.Math.ListN.{get_or-append}
use Rattle.std.proofs.Math.Seq.{get_or-append_seam}
use Rattle.std.specs.List.{AllByRecursion}
use Rattle.trie_keys.specs.Keys.{Keys, Under}
use Rattle.trie_keys.specs.Scan.{own}
use Rattle.prefix_index.specs.PlainNode.{PlainNode}
use Rattle.prefix_index.specs.Nodes.{Sub, nothing, sub_at, sub_of, subs_from, subs_of, stands, IsKeyUnder, IsKid, IsNode, AreNodes, AreWell, Extends, Pushed, IsAt}

some_same : {A : Type 0} (x y : A) → Some x ≡ Some y → x ≡ y
some_same x y e = cc e

module _ {K V : Type 0} (keys : Keys K) where
  one_more : (subs : List (Sub K V)) (s : Sub K V) → length (subs ++ s ∷ []) ≡ length subs + 1
  one_more subs s = omega (arith, length-append subs (s ∷ []))

  length_subs : (subs : List (Sub K V)) (ns : List (PlainNode K V)) → length (subs_from keys subs ns) ≡ length subs + length ns
  unfolding subs_from
  length_subs subs [] = omega arith
  length_subs subs (n ∷ ns) = omega (arith, length_subs (subs ++ sub_of keys subs n ∷ []) ns, one_more subs (sub_of keys subs n))

  subs_push : (subs : List (Sub K V)) (ns : List (PlainNode K V)) (n : PlainNode K V) → subs_from keys subs (ns ++ n ∷ []) ≡ subs_from keys subs ns ++ sub_of keys (subs_from keys subs ns) n ∷ []
  unfolding subs_from
  subs_push subs [] n = refl
  subs_push subs (m ∷ ns) n = subs_push (subs ++ sub_of keys subs m ∷ []) ns n

  nodes_push : (subs : List (Sub K V)) (ns : List (PlainNode K V)) (n : PlainNode K V) → AreNodes keys subs ns → IsNode keys (subs_from keys subs ns) n → AreNodes keys subs (ns ++ n ∷ [])
  unfolding AreNodes subs_from
  nodes_push subs [] n all here = (here, tt)
  nodes_push subs (m ∷ ns) n all here = (all.0, nodes_push (subs ++ sub_of keys subs m ∷ []) ns n all.1 here)

  kept : (subs : List (Sub K V)) (ns : List (PlainNode K V)) (number : ℕ) → number < length subs → sub_at (subs_from keys subs ns) number ≡ sub_at subs number
  unfolding subs_from
  kept subs [] number h = refl
  kept subs (n ∷ ns) number h =
      let more : number < length (subs ++ sub_of keys subs n ∷ []) = omega (arith, one_more subs (sub_of keys subs n)) in
      kept (subs ++ sub_of keys subs n ∷ []) ns number more ∙ get_or-append subs (sub_of keys subs n ∷ []) nothing number h

  -- what is so of subs is so of those that keep them
  kid_kept : (subs more : List (Sub K V)) (top : K) (symbol number : ℕ) → length subs ≤ length more → ((c : ℕ) → c < length subs → sub_at more c ≡ sub_at subs c) → IsKid keys subs top symbol number → IsKid keys more top symbol number
  kid_kept subs more top symbol number longer same kid =
      let e = same number kid.before in
      record {
        before = omega (arith, kid.before);
        under = subst (λ (s : Sub K V). AllByRecursion (λ e. Under keys top symbol e.0) s.list) (sym e) kid.under;
        none_or_under = subst (λ (s : Sub K V). (number ≡ 0) ⊎ IsKeyUnder keys s top symbol) (sym e) kid.none_or_under;
      }

  node_kept : (subs more : List (Sub K V)) (n : PlainNode K V) → length subs ≤ length more → ((c : ℕ) → c < length subs → sub_at more c ≡ sub_at subs c) → IsNode keys subs n → IsNode keys more n
  node_kept subs more n longer same node = record {
    valid = node.valid;
    zero = kid_kept subs more n.key 0 n.zero longer same node.zero;
    one = kid_kept subs more n.key 1 n.one longer same node.one;
  }

  sub_kept : (subs more : List (Sub K V)) (n : PlainNode K V) → ((c : ℕ) → c < length subs → sub_at more c ≡ sub_at subs c) → IsNode keys subs n → sub_of keys subs n ≡ sub_of keys more n
  sub_kept subs more n same node =
      let zeros = same n.zero node.zero.before in
      let ones = same n.one node.one.before in
      λ i. record { key = Some n.key; list = own n.key n.value ++ ((sym zeros i).list ++ (sym ones i).list) }

  -- what is known of the node of a place
  pub record Stood (subs : List (Sub K V)) (base place : ℕ) (n : PlainNode K V) : Type 0 where
    pub sub : sub_at subs (base + place) ≡ sub_of keys subs n
    pub node : IsNode keys subs n
    pub zero_before : n.zero < base + place
    pub one_before : n.one < base + place

  stood : (subs : List (Sub K V)) (ns : List (PlainNode K V)) (place : ℕ) (n : PlainNode K V) → AreNodes keys subs ns → slice_get ns place ≡ Some n → Stood (subs_from keys subs ns) (length subs) place n
  unfolding AreNodes subs_from
  stood subs [] place n all e = cc e
  stood subs (m ∷ ns) zero n all e =
      let here : m ≡ n = some_same m n e in
      let node : IsNode keys subs n = subst (λ k. IsNode keys subs k) here all.0 in
      let next = subs ++ sub_of keys subs m ∷ [] in
      let longer : length subs < length next = omega (arith, one_more subs (sub_of keys subs m)) in
      let keeps : (c : ℕ) → c < length subs → sub_at (subs_from keys next ns) c ≡ sub_at subs c = kept subs (m ∷ ns) in
      record {
        sub = rw add-zero (kept next ns (length subs) longer ∙ get_or-append_seam subs (sub_of keys subs m) [] nothing ∙ ap (sub_of keys subs) here ∙ sub_kept subs (subs_from keys next ns) n keeps node);
        node = node_kept subs (subs_from keys next ns) n (omega (arith, length_subs next ns)) keeps node;
        zero_before = omega (arith, node.zero.before);
        one_before = omega (arith, node.one.before);
      }
  stood subs (m ∷ ns) (suc place) n all e =
      let next = subs ++ sub_of keys subs m ∷ [] in
      let one : length next ≡ length subs + 1 = one_more subs (sub_of keys subs m) in
      let same : length next + place ≡ length subs + suc place = omega arith in
      let rest : Stood (subs_from keys next ns) (length next) place n = stood next ns place n all.1 e in
      record {
        sub = ap (sub_at (subs_from keys next ns)) (sym same) ∙ rest.sub;
        node = rest.node;
        zero_before = omega (arith, rest.zero_before);
        one_before = omega (arith, rest.one_before);
      }

  -- ---- a list of nodes as a whole

  pub length_subs_of : (nodes : List (PlainNode K V)) → length (subs_of keys nodes) ≡ length nodes + 1
  length_subs_of nodes = omega (arith, length_subs (nothing ∷ []) nodes)

  pub of_none : (nodes : List (PlainNode K V)) → stands keys nodes 0 ≡ nothing
  of_none nodes = kept (nothing ∷ []) nodes 0 (omega arith)

  pub node_at : (nodes : List (PlainNode K V)) (number place : ℕ) (n : PlainNode K V) → AreWell keys nodes → number ≡ place + 1 → slice_get nodes place ≡ Some n → IsAt keys nodes number n
  node_at nodes number place n well e h =
      let s : Stood (subs_of keys nodes) 1 place n = stood (nothing ∷ []) nodes place n well.each h in
      let same : 1 + place ≡ number = omega arith in
      record {
        sub = ap (sub_at (subs_of keys nodes)) (sym same) ∙ s.sub;
        node = s.node;
        zero_before = omega (arith, s.zero_before);
        one_before = omega (arith, s.one_before);
      }

  -- ---- longer lists

  pub extends_itself : (nodes : List (PlainNode K V)) → AreWell keys nodes → Extends keys nodes nodes
  extends_itself nodes well = record { well = well; more = omega arith; keeps = λ number h. refl }

  pub extends_along : (a b c : List (PlainNode K V)) → Extends keys a b → Extends keys b c → Extends keys a c
  extends_along a b c f g = record {
    well = g.well;
    more = omega (arith, f.more, g.more);
    keeps = λ number h. g.keeps number (omega (arith, f.more)) ∙ f.keeps number h;
  }

  pub kid_after : (old new : List (PlainNode K V)) (top : K) (symbol number : ℕ) → Extends keys old new → IsKid keys (subs_of keys old) top symbol number → IsKid keys (subs_of keys new) top symbol number
  kid_after old new top symbol number ext kid =
      kid_kept (subs_of keys old) (subs_of keys new) top symbol number
      (omega (arith, length_subs_of old, length_subs_of new, ext.more))
      (λ c h. ext.keeps c (omega (arith, length_subs_of old)))
      kid

  pub no_kid : (nodes : List (PlainNode K V)) (top : K) (symbol : ℕ) → IsKid keys (subs_of keys nodes) top symbol 0
  no_kid nodes top symbol = record {
    before = omega (arith, length_subs_of nodes);
    under = subst (λ (s : Sub K V). AllByRecursion (λ e. Under keys top symbol e.0) s.list) (sym (of_none nodes)) tt;
    none_or_under = inl refl;
  }

  pub pushed : (old new : List (PlainNode K V)) (n : PlainNode K V) (number : ℕ) → AreWell keys old → IsNode keys (subs_of keys old) n → new ≡ old ++ n ∷ [] → number ≡ length old + 1 → Pushed keys old new n number
  pushed old new n number well node e at =
      let s = sub_of keys (subs_of keys old) n in
      let subs : subs_of keys new ≡ subs_of keys old ++ s ∷ [] = ap (subs_of keys) e ∙ subs_push (nothing ∷ []) old n in
      let len : length new ≡ length old + 1 = ap length e ∙ omega (arith, length-append old (n ∷ [])) in
      let place : number ≡ length (subs_of keys old) = omega (arith, length_subs_of old) in
      record {
        extends = record {
          well = record { each = subst (AreNodes keys (nothing ∷ [])) (sym e) (nodes_push (nothing ∷ []) old n well.each node) };
          more = omega (arith, len);
          keeps = λ c h. ap (λ xs. sub_at xs c) subs ∙ get_or-append (subs_of keys old) (s ∷ []) nothing c (omega (arith, length_subs_of old));
        };
        some = omega (arith, at);
        within = omega (arith, at, len);
        sub = ap (λ xs. sub_at xs number) subs ∙ ap (sub_at (subs_of keys old ++ s ∷ [])) place ∙ get_or-append_seam (subs_of keys old) s [] nothing;
      }
