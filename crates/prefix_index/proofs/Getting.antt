-- A walk to a key finds what a look-up in the entries finds.
use Rattle.std.proofs.Common.{◌≡◌, ℕ, ◌<◌, ◌≤◌, cond, List, [], ◌∷◌, ◌++◌, Option, Some, None, refl, ap, ◌∙◌, arith, is_eq}
use Rattle.std.specs.BTreeMap.{is_at}
use Rattle.std.specs.Cmp.{tied_itself}
use Rattle.std.specs.List.{AllByRecursion}
use Rattle.std.specs.Map.{lookup}
use Rattle.std.specs.declared.cmp.Ordering.{Ordering}
use Rattle.std.specs.declared.cmp.Ordering.TheVariants.{Less, Equal, Greater}
use Rattle.trie_keys.specs.Keys.{Keys, KeyLaws, Under, Begins}
use Rattle.trie_keys.specs.Scan.{own}
use Rattle.trie_keys.proofs.Entries.{Before, Behind, all_map}
use Rattle.trie_keys.proofs.Beginning.{before_side, behind_side, behind_own}
use Rattle.prefix_index.specs.PlainNode.{PlainNode}
use Rattle.prefix_index.specs.Nodes.{Sub, IsAt}
use Rattle.prefix_index.proofs.Numbers.{of_none}
use Rattle.prefix_index.proofs.Putting.{listed, listed_at, begins_at, before_rest}
use Rattle.prefix_index.proofs.Taking.{other}

module _ {K V : Type 0} (order : K → K → Ordering) where
  found_before : (k : K) (es : List (K × V)) → Before order k es → lookup (is_at (order k)) es ≡ None
  found_before k [] before = refl
  found_before k (e ∷ es) before = ap (λ o. cond (is_eq o) (Some e.1) (lookup (is_at (order k)) es)) before.0 ∙ found_before k es before.1

  found_behind : (k : K) (es more : List (K × V)) → Behind order k es → lookup (is_at (order k)) (es ++ more) ≡ lookup (is_at (order k)) more
  found_behind k [] more behind = refl
  found_behind k (e ∷ es) more behind = ap (λ o. cond (is_eq o) (Some e.1) (lookup (is_at (order k)) (es ++ more))) behind.0 ∙ found_behind k es more behind.1

  found_first : (k : K) (es more : List (K × V)) → Before order k more → lookup (is_at (order k)) (es ++ more) ≡ lookup (is_at (order k)) es
  found_first k [] more before = found_before k more before
  found_first k (e ∷ es) more before = ap (λ o. cond (is_at (order k) e.0) (Some e.1) o) (found_first k es more before)

  apart : (o : Ordering) (v : V) (rest : Option V) → (o ≡ Equal → ⊥) → cond (is_eq o) (Some v) rest ≡ rest
  apart Less v rest h = refl
  apart Equal v rest h = absurd (h refl)
  apart Greater v rest h = refl

  found_absent : (k : K) (es : List (K × V)) → AllByRecursion (λ e. order k e.0 ≡ Equal → ⊥) es → lookup (is_at (order k)) es ≡ None
  found_absent k [] none = refl
  found_absent k (e ∷ es) none = apart (order k e.0) e.1 (lookup (is_at (order k)) es) none.0 ∙ found_absent k es none.1

module _ {K V : Type 0} (keys : Keys K) (laws : KeyLaws keys) where
  abbrev look : K → List (K × V) → Option V
  look key es = lookup (is_at (keys.order key)) es

  pub get_none : (nodes : List (PlainNode K V)) (key : K) → look key (listed keys laws nodes 0) ≡ None
  get_none nodes key = ap (λ (s : Sub K V). look key s.list) (of_none keys nodes)

  pub get_away : (nodes : List (PlainNode K V)) (at : ℕ) (n : PlainNode K V) (key : K) (common : ℕ) → IsAt keys nodes at n → common < keys.len n.key → common ≤ keys.len key → (common < keys.len n.key → common < keys.len key → keys.symbol n.key common ≡ keys.symbol key common → ⊥) → look key (listed keys laws nodes at) ≡ None
  get_away nodes at n key common is short there differ =
      found_absent keys.order key (listed keys laws nodes at)
      (all_map (λ e. Begins keys n.key e.0) (λ e. keys.order key e.0 ≡ Equal → ⊥) (listed keys laws nodes at) (λ e b. other keys laws n.key key e.0 common short there differ b) (begins_at keys laws nodes at n is))

  pub get_zero : (nodes : List (PlainNode K V)) (at : ℕ) (n : PlainNode K V) (key : K) → IsAt keys nodes at n → Under keys n.key 0 key → look key (listed keys laws nodes at) ≡ look key (listed keys laws nodes n.zero)
  get_zero nodes at n key is u =
      ap (look key) (listed_at keys laws nodes at n is)
      ∙ found_behind keys.order key (own n.key n.value) (listed keys laws nodes n.zero ++ listed keys laws nodes n.one) (behind_own keys laws n.key key 0 n.value is.node.valid u)
      ∙ found_first keys.order key (listed keys laws nodes n.zero) (listed keys laws nodes n.one) (before_side keys laws n.key key 0 1 (listed keys laws nodes n.one) (omega arith) u is.node.one.under)

  pub get_one : (nodes : List (PlainNode K V)) (at : ℕ) (n : PlainNode K V) (key : K) → IsAt keys nodes at n → Under keys n.key 1 key → look key (listed keys laws nodes at) ≡ look key (listed keys laws nodes n.one)
  get_one nodes at n key is u =
      ap (look key) (listed_at keys laws nodes at n is)
      ∙ found_behind keys.order key (own n.key n.value) (listed keys laws nodes n.zero ++ listed keys laws nodes n.one) (behind_own keys laws n.key key 1 n.value is.node.valid u)
      ∙ found_behind keys.order key (listed keys laws nodes n.zero) (listed keys laws nodes n.one) (behind_side keys laws n.key key 0 1 (listed keys laws nodes n.zero) (omega arith) u is.node.zero.under)

  own_found : (key : K) (value : Option V) (rest : List (K × V)) → Before keys.order key rest → look key (own key value ++ rest) ≡ value
  own_found key None rest before = found_before keys.order key rest before
  own_found key (Some v) rest before = ap (λ o. cond (is_eq o) (Some v) (look key rest)) (tied_itself laws.total key)

  pub get_here : (nodes : List (PlainNode K V)) (at : ℕ) (n : PlainNode K V) → IsAt keys nodes at n → look n.key (listed keys laws nodes at) ≡ n.value
  get_here nodes at n is =
      ap (look n.key) (listed_at keys laws nodes at n is)
      ∙ own_found n.key n.value (listed keys laws nodes n.zero ++ listed keys laws nodes n.one) (before_rest keys laws n.key (listed keys laws nodes n.zero) (listed keys laws nodes n.one) is.node.valid is.node.zero.under is.node.one.under)
