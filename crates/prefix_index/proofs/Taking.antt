-- A key taken out.
use Rattle.std.proofs.Common.{◌≡◌, ℕ, ◌+◌, ◌<◌, ◌≤◌, ◌⊎◌, inl, inr, cond, List, ◌∷◌, ◌++◌, length, Option, Some, None, refl, sym, ap, ◌∙◌, subst, arith, append-nil, is_eq}
use Rattle.std.specs.BTreeMap.{is_at}
use Rattle.std.specs.Map.{remove_entry}
use Rattle.std.specs.Cmp.{tied_itself}
use Rattle.std.specs.List.{AllByRecursion}
use Rattle.std.specs.declared.cmp.Ordering.TheVariants.{Equal}
use Rattle.trie_keys.specs.Keys.{Keys, KeyLaws, Under, Begins}
use Rattle.trie_keys.specs.Scan.{own}
use Rattle.prefix_index.specs.PlainNode.{PlainNode}
use Rattle.prefix_index.specs.Nodes.{Sub, sub_of, subs_of, stands, IsKeyUnder, IsKid, IsNode, AreWell, Extends, Pushed, Joined, Taken, IsAt}
use Rattle.trie_keys.proofs.Entries.{Before, all_map, remove_absent, remove_none_before, remove_behind, remove_first}
use Rattle.trie_keys.proofs.Beginning.{further, under_begins, before_side, behind_side, behind_own}
use Rattle.prefix_index.proofs.Numbers.{kid_after, of_none, length_subs_of, extends_itself, extends_along}
use Rattle.prefix_index.proofs.Putting.{all_begin, listed, listed_at, begins_at, kid_key, kept_list, pushed_list, pushed_kid, before_rest}

module _ {K : Type 0} (keys : Keys K) (laws : KeyLaws keys) where
  -- a key that does not begin with the node's
  pub other : (top key e : K) (n : ℕ) → n < keys.len top → n ≤ keys.len key → (n < keys.len top → n < keys.len key → keys.symbol top n ≡ keys.symbol key n → ⊥) → Begins keys top e → keys.order key e ≡ Equal → ⊥
  other top key e n short there differ b tied =
      let same : e ≡ key = sym (laws.same key e tied) in
      let here : Begins keys top key = subst (λ k. Begins keys top k) same b in
      differ short (omega (arith, here.long)) (laws.symbols_agree n top key (laws.fewer (n + 1) (keys.len top) top key (omega arith) here.agrees))

module _ {K V : Type 0} (keys : Keys K) (laws : KeyLaws keys) where
  -- what is under a key is under what the key is under
  kid_further : (nodes : List (PlainNode K V)) (top mid : K) (s symbol number : ℕ) → Under keys top symbol mid → IsKid keys (subs_of keys nodes) mid s number → IsKid keys (subs_of keys nodes) top symbol number
  kid_further nodes top mid s symbol number u kid = record {
    before = kid.before;
    under = all_map (λ e. Under keys mid s e.0) (λ e. Under keys top symbol e.0) (listed keys laws nodes number) (λ e w. further keys laws top mid e.0 symbol u (under_begins keys laws mid e.0 s w)) kid.under;
    none_or_under = elim kid.none_or_under as (λ _. (number ≡ 0) ⊎ IsKeyUnder keys (stands keys nodes number) top symbol) [
      | inl none ↦ inl none
      | inr some ↦ inr (some.0, some.1, further keys laws top mid some.0 symbol u (under_begins keys laws mid some.0 s some.2))
    ];
  }

  pub join_pushed : (old new : List (PlainNode K V)) (n : PlainNode K V) (number : ℕ) → IsNode keys (subs_of keys old) n → Pushed keys old new n number → Joined keys old new n number
  join_pushed old new n number node p =
      let e = pushed_list keys laws old new n number p in
      record {
        extends = p.extends;
        within = p.within;
        list = e;
        kid = λ top symbol u.
            pushed_kid keys laws old new n number top symbol p u
            (subst (λ es. AllByRecursion (λ e. Under keys top symbol e.0) es) (sym e)
            (all_map (λ e. Begins keys n.key e.0) (λ e. Under keys top symbol e.0) (own n.key n.value ++ (listed keys laws old n.zero ++ listed keys laws old n.one)) (λ e b. further keys laws top n.key e.0 symbol u b)
            (all_begin keys laws n.key n.value (listed keys laws old n.zero) (listed keys laws old n.one) node.valid node.zero.under node.one.under)));
      }

  pub join_one : (old : List (PlainNode K V)) (key : K) (number : ℕ) → AreWell keys old → IsNode keys (subs_of keys old) (record { key = key; value = None; zero = 0; one = number }) → Joined keys old old (record { key = key; value = None; zero = 0; one = number }) number
  join_one old key number well node = record {
    extends = extends_itself keys old well;
    within = omega (arith, node.one.before, length_subs_of keys old);
    list = ap (λ (s : Sub K V). s.list ++ listed keys laws old number) (sym (of_none keys old));
    kid = λ top symbol u. kid_further old top key 1 symbol number u node.one;
  }

  pub join_zero : (old : List (PlainNode K V)) (key : K) (number : ℕ) → AreWell keys old → IsNode keys (subs_of keys old) (record { key = key; value = None; zero = number; one = 0 }) → Joined keys old old (record { key = key; value = None; zero = number; one = 0 }) number
  join_zero old key number well node = record {
    extends = extends_itself keys old well;
    within = omega (arith, node.zero.before, length_subs_of keys old);
    list = sym (append-nil (listed keys laws old number)) ∙ ap (λ (s : Sub K V). listed keys laws old number ++ s.list) (sym (of_none keys old));
    kid = λ top symbol u. kid_further old top key 0 symbol number u node.zero;
  }

  -- ---- the ways to take a key out

  finish : (old mid new : List (PlainNode K V)) (at : ℕ) (n m : PlainNode K V) (key : K) (number : ℕ) → IsAt keys old at n → m.key ≡ n.key → Extends keys old mid → Joined keys mid new m number
      → (sub_of keys (subs_of keys mid) m).list ≡ remove_entry (is_at (keys.order key)) (listed keys laws old at)
      → Taken keys old new at key number
  finish old mid new at n m key number is same ext j list = record {
    extends = extends_along keys old mid new ext j.extends;
    within = j.within;
    list = j.list ∙ list;
    kid = λ top symbol kid. j.kid top symbol (subst (λ k. Under keys top symbol k) (sym same) (kid_key keys laws old at n top symbol is kid));
  }

  pub take_none : (old : List (PlainNode K V)) (key : K) → AreWell keys old → Taken keys old old 0 key 0
  take_none old key well = record {
    extends = extends_itself keys old well;
    within = omega arith;
    list = ap (λ (s : Sub K V). s.list) (of_none keys old) ∙ ap (λ (s : Sub K V). remove_entry (is_at (keys.order key)) s.list) (sym (of_none keys old));
    kid = λ top symbol kid. kid;
  }

  pub take_absent : (old : List (PlainNode K V)) (at : ℕ) (n : PlainNode K V) (key : K) (common : ℕ) → AreWell keys old → at ≤ length old → IsAt keys old at n → common < keys.len n.key → common ≤ keys.len key → (common < keys.len n.key → common < keys.len key → keys.symbol n.key common ≡ keys.symbol key common → ⊥) → Taken keys old old at key at
  take_absent old at n key common well within is short there differ = record {
    extends = extends_itself keys old well;
    within = within;
    list = sym (remove_absent keys.order key (listed keys laws old at) (all_map (λ e. Begins keys n.key e.0) (λ e. keys.order key e.0 ≡ Equal → ⊥) (listed keys laws old at) (λ e b. other keys laws n.key key e.0 common short there differ b) (begins_at keys laws old at n is)));
    kid = λ top symbol kid. kid;
  }

  same_step : (key : K) (value : Option V) (rest : List (K × V)) → Before keys.order key rest → rest ≡ remove_entry (is_at (keys.order key)) (own key value ++ rest)
  same_step key None rest before = sym (remove_none_before keys.order key rest before)
  same_step key (Some w) rest before = sym (ap (λ o. cond (is_eq o) rest ((key, w) ∷ remove_entry (is_at (keys.order key)) rest)) (tied_itself laws.total key))

  pub take_same : (old new : List (PlainNode K V)) (at : ℕ) (n : PlainNode K V) (number : ℕ) → AreWell keys old → IsAt keys old at n → Joined keys old new (record { key = n.key; value = None; zero = n.zero; one = n.one }) number → Taken keys old new at n.key number
  take_same old new at n number well is j =
      finish old old new at n (record { key = n.key; value = None; zero = n.zero; one = n.one }) n.key number is refl (extends_itself keys old well) j
      (same_step n.key n.value (listed keys laws old n.zero ++ listed keys laws old n.one) (before_rest keys laws n.key (listed keys laws old n.zero) (listed keys laws old n.one) is.node.valid is.node.zero.under is.node.one.under)
      ∙ ap (remove_entry (is_at (keys.order n.key))) (sym (listed_at keys laws old at n is)))

  pub take_below_zero : (old mid new : List (PlainNode K V)) (at : ℕ) (n : PlainNode K V) (key : K) (left number : ℕ) → IsAt keys old at n → Under keys n.key 0 key → Taken keys old mid n.zero key left → Joined keys mid new (record { key = n.key; value = n.value; zero = left; one = n.one }) number → Taken keys old new at key number
  take_below_zero old mid new at n key left number is u q j =
      finish old mid new at n (record { key = n.key; value = n.value; zero = left; one = n.one }) key number is refl q.extends j
      (ap (λ es. own n.key n.value ++ (es ++ listed keys laws mid n.one)) q.list
      ∙ ap (λ es. own n.key n.value ++ (remove_entry (is_at (keys.order key)) (listed keys laws old n.zero) ++ es)) (kept_list keys laws old mid n.one q.extends is.node.one.before)
      ∙ ap (λ es. own n.key n.value ++ es) (sym (remove_first keys.order key (listed keys laws old n.zero) (listed keys laws old n.one) (before_side keys laws n.key key 0 1 (listed keys laws old n.one) (omega arith) u is.node.one.under)))
      ∙ sym (remove_behind keys.order key (own n.key n.value) (listed keys laws old n.zero ++ listed keys laws old n.one) (behind_own keys laws n.key key 0 n.value is.node.valid u))
      ∙ ap (remove_entry (is_at (keys.order key))) (sym (listed_at keys laws old at n is)))

  pub take_below_one : (old mid new : List (PlainNode K V)) (at : ℕ) (n : PlainNode K V) (key : K) (one number : ℕ) → IsAt keys old at n → Under keys n.key 1 key → Taken keys old mid n.one key one → Joined keys mid new (record { key = n.key; value = n.value; zero = n.zero; one = one }) number → Taken keys old new at key number
  take_below_one old mid new at n key one number is u q j =
      finish old mid new at n (record { key = n.key; value = n.value; zero = n.zero; one = one }) key number is refl q.extends j
      (ap (λ es. own n.key n.value ++ (listed keys laws mid n.zero ++ es)) q.list
      ∙ ap (λ es. own n.key n.value ++ (es ++ remove_entry (is_at (keys.order key)) (listed keys laws old n.one))) (kept_list keys laws old mid n.zero q.extends is.node.zero.before)
      ∙ ap (λ es. own n.key n.value ++ es) (sym (remove_behind keys.order key (listed keys laws old n.zero) (listed keys laws old n.one) (behind_side keys laws n.key key 0 1 (listed keys laws old n.zero) (omega arith) u is.node.zero.under)))
      ∙ sym (remove_behind keys.order key (own n.key n.value) (listed keys laws old n.zero ++ listed keys laws old n.one) (behind_own keys laws n.key key 1 n.value is.node.valid u))
      ∙ ap (remove_entry (is_at (keys.order key))) (sym (listed_at keys laws old at n is)))

  -- ---- what is joined is a node

  pub left_zero_node : (old mid : List (PlainNode K V)) (at : ℕ) (n : PlainNode K V) (key : K) (left : ℕ) → IsAt keys old at n → Taken keys old mid n.zero key left → IsNode keys (subs_of keys mid) (record { key = n.key; value = n.value; zero = left; one = n.one })
  left_zero_node old mid at n key left is q = record {
    valid = is.node.valid;
    zero = q.kid n.key 0 is.node.zero;
    one = kid_after keys old mid n.key 1 n.one q.extends is.node.one;
  }

  pub left_one_node : (old mid : List (PlainNode K V)) (at : ℕ) (n : PlainNode K V) (key : K) (one : ℕ) → IsAt keys old at n → Taken keys old mid n.one key one → IsNode keys (subs_of keys mid) (record { key = n.key; value = n.value; zero = n.zero; one = one })
  left_one_node old mid at n key one is q = record {
    valid = is.node.valid;
    zero = kid_after keys old mid n.key 0 n.zero q.extends is.node.zero;
    one = q.kid n.key 1 is.node.one;
  }

  pub bare_node : (old : List (PlainNode K V)) (at : ℕ) (n : PlainNode K V) → IsAt keys old at n → IsNode keys (subs_of keys old) (record { key = n.key; value = None; zero = n.zero; one = n.one })
  bare_node old at n is = record { valid = is.node.valid; zero = is.node.zero; one = is.node.one }
