-- Nodes of a list of entries.
use Rattle.std.proofs.Common.{◌≡◌, ℕ, zero, suc, ◌-◌, ◌<◌, ◌≤◌, true, List, [], ◌∷◌, ◌++◌, length, Option, Some, None, sym, ap, ◌∙◌, subst, arith, take, drop}
use Rattle.std.proofs.lemmas.Grind.{common_steps}
use Rattle.std.specs.List.{AllByRecursion}
use Rattle.trie_keys.specs.Keys.{Keys, KeyLaws, Under}
use Rattle.trie_keys.specs.Scan.{own}
use Rattle.prefix_index.specs.PlainNode.{PlainNode}
use Rattle.prefix_index.specs.Nodes.{Sub, subs_of, IsNode, AreWell, Pushed, Built}
use Rattle.trie_keys.proofs.Entries.{all_second}
use Rattle.trie_keys.proofs.Beginning.{AllUnder}
use Rattle.prefix_index.proofs.Numbers.{kid_after, no_kid, of_none, extends_itself, extends_along}
use Rattle.prefix_index.proofs.Putting.{Parts, middle, zero_not_one, listed, kept_list, within_subs, pushed_list, pushed_kid}

module _ {K V : Type 0} (keys : Keys K) (laws : KeyLaws keys) where
  pub built_none : (old : List (PlainNode K V)) → AreWell keys old → Built keys old old [] 0
  built_none old well = record {
    extends = extends_itself keys old well;
    within = omega arith;
    list = ap (λ (s : Sub K V). s.list) (of_none keys old);
    kid = λ top symbol all. no_kid keys old top symbol;
  }

  pub built_node : (old mid next : List (PlainNode K V)) (key : K) (value : Option V) (zs os : List (K × V)) (left right : ℕ) → keys.valid key ≡ true → AllUnder keys laws key 0 zs → AllUnder keys laws key 1 os → Built keys old mid zs left → Built keys mid next os right → IsNode keys (subs_of keys next) (record { key = key; value = value; zero = left; one = right })
  built_node old mid next key value zs os left right valid z o p q = record {
    valid = valid;
    zero = kid_after keys mid next key 0 left q.extends (p.kid key 0 z);
    one = q.kid key 1 o;
  }

  built_list : (old mid next new : List (PlainNode K V)) (key : K) (value : Option V) (zs os : List (K × V)) (left right number : ℕ) → Built keys old mid zs left → Built keys mid next os right → Pushed keys next new (record { key = key; value = value; zero = left; one = right }) number → listed keys laws new number ≡ own key value ++ (zs ++ os)
  built_list old mid next new key value zs os left right number p q r =
      pushed_list keys laws next new (record { key = key; value = value; zero = left; one = right }) number r
      ∙ ap (λ es. own key value ++ (es ++ listed keys laws next right)) (kept_list keys laws mid next left q.extends (within_subs keys laws mid left p.within) ∙ p.list)
      ∙ ap (λ es. own key value ++ (zs ++ es)) q.list

  pub built_above : (old mid next new : List (PlainNode K V)) (key : K) (v : V) (zs os : List (K × V)) (left right number : ℕ) → Built keys old mid zs left → Built keys mid next os right → Pushed keys next new (record { key = key; value = Some v; zero = left; one = right }) number → Built keys old new ((key, v) ∷ (zs ++ os)) number
  built_above old mid next new key v zs os left right number p q r =
      let e = built_list old mid next new key (Some v) zs os left right number p q r in
      record {
        extends = extends_along keys old mid new p.extends (extends_along keys mid next new q.extends r.extends);
        within = r.within;
        list = e;
        kid = λ top symbol all. pushed_kid keys laws next new (record { key = key; value = Some v; zero = left; one = right }) number top symbol r all.0 (subst (λ es. AllByRecursion (λ e. Under keys top symbol e.0) es) (sym e) all);
      }

  top_of : (top key : K) (symbol : ℕ) (zs os : List (K × V)) → keys.valid key ≡ true → 0 < length zs → 0 < length os → AllUnder keys laws key 0 zs → AllUnder keys laws key 1 os → AllUnder keys laws top symbol (zs ++ os) → Under keys top symbol key
  top_of top key symbol [] os valid a b z o all = absurd (omega (arith, a))
  top_of top key symbol (x ∷ zs) [] valid a b z o all = absurd (omega (arith, b))
  top_of top key symbol (x ∷ zs) (y ∷ os) valid a b z o all =
      let parts : Parts keys laws key x.0 y.0 0 1 = record { valid = valid; first = z.0; second = o.0 } in
      middle keys laws top key x.0 y.0 0 1 symbol parts (zero_not_one keys laws) all.0 (all_second (λ e. Under keys top symbol e.0) zs (y ∷ os) all.1).0

  pub built_apart : (old mid next new : List (PlainNode K V)) (key : K) (zs os : List (K × V)) (left right number : ℕ) → keys.valid key ≡ true → 0 < length zs → 0 < length os → AllUnder keys laws key 0 zs → AllUnder keys laws key 1 os → Built keys old mid zs left → Built keys mid next os right → Pushed keys next new (record { key = key; value = None; zero = left; one = right }) number → Built keys old new (zs ++ os) number
  built_apart old mid next new key zs os left right number valid a b z o p q r =
      let e = built_list old mid next new key None zs os left right number p q r in
      record {
        extends = extends_along keys old mid new p.extends (extends_along keys mid next new q.extends r.extends);
        within = r.within;
        list = e;
        kid = λ top symbol all. pushed_kid keys laws next new (record { key = key; value = None; zero = left; one = right }) number top symbol r (top_of top key symbol zs os valid a b z o all) (subst (λ es. AllByRecursion (λ e. Under keys top symbol e.0) es) (sym e) all);
      }

all_of_take : {X : Type 0} (P : X → Type 0) (xs : List X) (n : ℕ) → length xs ≤ n → AllByRecursion P (take n xs) → AllByRecursion P xs
all_of_take P [] n h all = tt
all_of_take P (x ∷ xs) zero h all = absurd (omega arith)
all_of_take P (x ∷ xs) (suc n) h all = (all.0, all_of_take P xs n (omega arith) all.1)

two_parts : {X : Type 0} (xs : List X) (z : ℕ) → z ≤ length xs → take z xs ++ take (length xs - z) (drop z xs) ≡ xs
two_parts xs z h = grind (arith, common_steps)

module _ {K V : Type 0} (keys : Keys K) (laws : KeyLaws keys) where
  pub node_done : (old mid next : List (PlainNode K V)) (key : K) (value : Option V) (a b : List (K × V)) (n left right : ℕ) → keys.valid key ≡ true → AllUnder keys laws key 0 a → AllUnder keys laws key 1 (take n b) → length b ≤ n → Built keys old mid a left → Built keys mid next b right → IsNode keys (subs_of keys next) (record { key = key; value = value; zero = left; one = right })
  node_done old mid next key value a b n left right valid z o le p q =
      built_node keys laws old mid next key value a b left right valid z (all_of_take (λ e. Under keys key 1 e.0) b n le o) p q

  pub above_done : (old mid next new : List (PlainNode K V)) (key : K) (v : V) (rest : List (K × V)) (z left right number : ℕ) → z ≤ length rest → Built keys old mid (take z rest) left → Built keys mid next (take (length rest - z) (drop z rest)) right → Pushed keys next new (record { key = key; value = Some v; zero = left; one = right }) number → Built keys old new ((key, v) ∷ rest) number
  above_done old mid next new key v rest z left right number h p q r =
      let a = take z rest in
      let b = take (length rest - z) (drop z rest) in
      subst (λ es. Built keys old new ((key, v) ∷ es) number) (two_parts rest z h) (built_above keys laws old mid next new key v a b left right number p q r)

  pub apart_done : (old mid next new : List (PlainNode K V)) (key : K) (rest : List (K × V)) (z n left right number : ℕ) → z ≤ length rest → keys.valid key ≡ true → 0 < z → 0 < length (take (length rest - z) (drop z rest)) → AllUnder keys laws key 0 (take z rest) → AllUnder keys laws key 1 (take n (take (length rest - z) (drop z rest))) → length (take (length rest - z) (drop z rest)) ≤ n
      → Built keys old mid (take z rest) left → Built keys mid next (take (length rest - z) (drop z rest)) right → Pushed keys next new (record { key = key; value = None; zero = left; one = right }) number → Built keys old new rest number
  apart_done old mid next new key rest z n left right number h valid some others zs os le p q r =
      let a = take z rest in
      let b = take (length rest - z) (drop z rest) in
      let first : 0 < length a = grind (arith, common_steps) in
      subst (λ es. Built keys old new es number) (two_parts rest z h)
      (built_apart keys laws old mid next new key a b left right number valid first others zs (all_of_take (λ e. Under keys key 1 e.0) b n le os) p q r)

  pub empty_done : (old : List (PlainNode K V)) (es : List (K × V)) → AreWell keys old → length es ≡ 0 → Built keys old old es 0
  empty_done old [] well e = built_none keys laws old well
  empty_done old (x ∷ es) well e = absurd (omega (arith, e))
