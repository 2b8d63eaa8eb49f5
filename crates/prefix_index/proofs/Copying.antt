-- A copy of what a number stands for.
use Rattle.std.proofs.Common.{◌≡◌, ℕ, List, ◌++◌, sym, ap, ◌∙◌, subst, arith}
use Rattle.std.specs.List.{AllByRecursion}
use Rattle.trie_keys.specs.Keys.{Keys, KeyLaws, Under}
use Rattle.trie_keys.specs.Scan.{own}
use Rattle.prefix_index.specs.PlainNode.{PlainNode}
use Rattle.prefix_index.specs.Nodes.{Sub, subs_of, IsNode, AreWell, Pushed, Copied, IsAt}
use Rattle.prefix_index.proofs.Numbers.{kid_after, no_kid, of_none, extends_itself, extends_along}
use Rattle.prefix_index.proofs.Putting.{listed, listed_at, kid_key, kept_list, within_subs, pushed_list, pushed_kid}

module _ {K V : Type 0} (keys : Keys K) (laws : KeyLaws keys) where
  pub copy_none : (source old : List (PlainNode K V)) → AreWell keys old → Copied keys source 0 old old 0
  copy_none source old well = record {
    extends = extends_itself keys old well;
    within = omega arith;
    list = ap (λ (s : Sub K V). s.list) (of_none keys old) ∙ ap (λ (s : Sub K V). s.list) (sym (of_none keys source));
    kid = λ top symbol kid. no_kid keys old top symbol;
  }

  pub copy_node : (source old mid : List (PlainNode K V)) (next : List (PlainNode K V)) (at : ℕ) (n : PlainNode K V) (left right : ℕ) → IsAt keys source at n → Copied keys source n.zero old mid left → Copied keys source n.one mid next right → IsNode keys (subs_of keys next) (record { key = n.key; value = n.value; zero = left; one = right })
  copy_node source old mid next at n left right is p q = record {
    valid = is.node.valid;
    zero = kid_after keys mid next n.key 0 left q.extends (p.kid n.key 0 is.node.zero);
    one = q.kid n.key 1 is.node.one;
  }

  pub copy_all : (source old mid next new : List (PlainNode K V)) (at : ℕ) (n : PlainNode K V) (left right number : ℕ) → IsAt keys source at n → Copied keys source n.zero old mid left → Copied keys source n.one mid next right → Pushed keys next new (record { key = n.key; value = n.value; zero = left; one = right }) number → Copied keys source at old new number
  copy_all source old mid next new at n left right number is p q r =
      let m : PlainNode K V = record { key = n.key; value = n.value; zero = left; one = right } in
      let same : listed keys laws new number ≡ listed keys laws source at =
      pushed_list keys laws next new m number r
      ∙ ap (λ es. own n.key n.value ++ (es ++ listed keys laws next right)) (kept_list keys laws mid next left q.extends (within_subs keys laws mid left p.within) ∙ p.list)
      ∙ ap (λ es. own n.key n.value ++ (listed keys laws source n.zero ++ es)) q.list
      ∙ sym (listed_at keys laws source at n is) in
      record {
        extends = extends_along keys old mid new p.extends (extends_along keys mid next new q.extends r.extends);
        within = r.within;
        list = same;
        kid = λ top symbol kid.
            pushed_kid keys laws next new m number top symbol r (kid_key keys laws source at n top symbol is kid)
            (subst (λ es. AllByRecursion (λ e. Under keys top symbol e.0) es) (sym same) kid.under);
      }
