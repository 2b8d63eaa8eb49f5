-- A value at a key.
use Rattle.std.proofs.Common.{◌≡◌, ℕ, ◌+◌, ◌<◌, ◌≤◌, inl, inr, true, List, [], ◌∷◌, ◌++◌, length, Option, Some, None, Result, Ok, Err, IfOk, sym, ap, ◌∙◌, subst, arith, append-nil}
use Rattle.std.specs.BTreeMap.{insert_entry}
use Rattle.std.specs.Cmp.{tied_itself}
use Rattle.std.specs.List.{AllByRecursion}
use Rattle.std.specs.Ordering.{match_ordering}
use Rattle.std.specs.declared.cmp.Ordering.TheVariants.{Less}
use Rattle.trie_keys.specs.Keys.{Keys, KeyLaws, Under, Begins}
use Rattle.trie_keys.specs.Scan.{own}
use Rattle.prefix_index.specs.PlainNode.{PlainNode}
use Rattle.prefix_index.specs.Nodes.{Sub, subs_of, stands, IsKid, IsNode, AreWell, Extends, Pushed, Put, IsAt}
use Rattle.trie_keys.proofs.Entries.{Before, all_append, all_map, insert_before, insert_behind, insert_first, all_inserted}
use Rattle.trie_keys.proofs.Beginning.{AllUnder, AllBegin, own_begins, under_begins, all_further, before_under, before_side, behind_side, behind_own}
use Rattle.prefix_index.proofs.Numbers.{kid_after, no_kid, of_none, length_subs_of, extends_itself, extends_along}

pub told : {A E : Type 0} (r : Result A E) (P Q : A → Type 0) → IfOk r P → ((x : A) → P x → Q x) → IfOk r Q
told (Ok x) P Q h f = f x h
told (Err e) P Q h f = h

some_same : {A : Type 0} (x y : A) → Some x ≡ Some y → x ≡ y
some_same x y e = cc e

module _ {K : Type 0} (keys : Keys K) (laws : KeyLaws keys) where
  -- what two keys have in common, and where they part
  pub record Parts (mid a b : K) (s t : ℕ) : Type 0 where
    pub valid : keys.valid mid ≡ true
    pub first : Under keys mid s a
    pub second : Under keys mid t b

  differ : (top mid a b : K) (s t symbol : ℕ) → Parts mid a b s t → (s ≡ t → ⊥) → Under keys top symbol a → Under keys top symbol b → keys.len top < keys.len mid
  differ top mid a b s t symbol parts apart u w =
      let n = keys.len mid in
      let m = keys.len top in
      let both : keys.agree m a b ≡ true = laws.along m a top b (laws.back m top a u.agrees) w.agrees in
      let short : n < m → ⊥ = λ lt. apart (sym parts.first.next ∙ laws.symbols_agree n a b (laws.fewer (n + 1) m a b (omega arith) both) ∙ parts.second.next) in
      let same : n ≡ m → ⊥ = λ e. apart (sym parts.first.next ∙ ap (keys.symbol a) e ∙ u.next ∙ sym w.next ∙ ap (keys.symbol b) (sym e) ∙ parts.second.next) in
      omega (arith, short, same)

  pub middle : (top mid a b : K) (s t symbol : ℕ) → Parts mid a b s t → (s ≡ t → ⊥) → Under keys top symbol a → Under keys top symbol b → Under keys top symbol mid
  middle top mid a b s t symbol parts apart u w =
      let n = keys.len mid in
      let m = keys.len top in
      let lt : m < n = differ top mid a b s t symbol parts apart u w in
      record {
        valid = parts.valid;
        agrees = laws.along m top a mid u.agrees (laws.back m mid a (laws.fewer m n mid a (omega arith) parts.first.agrees));
        longer = lt;
        next = laws.symbols_agree m mid a (laws.fewer (m + 1) n mid a (omega arith) parts.first.agrees) ∙ u.next;
      }

  pub zero_not_one : ◌≡◌ {A = ℕ} 0 1 → ⊥
  zero_not_one e = omega (arith, e)

  one_not_zero : ◌≡◌ {A = ℕ} 1 0 → ⊥
  one_not_zero e = omega (arith, e)

  pub under_of : (top key : K) (symbol place : ℕ) → keys.agree (keys.len top) top key ≡ true → keys.len top < keys.len key → keys.valid key ≡ true → place ≡ keys.len top → keys.symbol key place ≡ symbol → Under keys top symbol key
  under_of top key symbol place agrees longer valid e next = record { valid = valid; agrees = agrees; longer = longer; next = ap (keys.symbol key) (sym e) ∙ next }

  parts_of : (part top key : K) (n s t : ℕ) → keys.valid part ≡ true → keys.len part ≡ n → keys.agree n part top ≡ true → keys.agree n top key ≡ true → n < keys.len top → n < keys.len key → keys.valid top ≡ true → keys.valid key ≡ true → keys.symbol top n ≡ s → keys.symbol key n ≡ t → Parts part top key s t
  parts_of part top key n s t valid len agrees both in_top in_key valid_top valid_key first second =
      let to_top : keys.agree (keys.len part) part top ≡ true = subst (λ m. keys.agree m part top ≡ true) (sym len) agrees in
      let to_key : keys.agree (keys.len part) part key ≡ true = subst (λ m. keys.agree m part key ≡ true) (sym len) (laws.along n part top key agrees both) in
      record {
        valid = valid;
        first = under_of part top s n to_top (omega arith) valid_top (sym len) first;
        second = under_of part key t n to_key (omega arith) valid_key (sym len) second;
      }

  -- where the key has a 1, the other has a 0, and the other way round
  pub parts_one : (part top key : K) (n : ℕ) → keys.valid part ≡ true → keys.len part ≡ n → keys.agree n part top ≡ true → keys.agree n top key ≡ true → n < keys.len top → n < keys.len key → keys.valid top ≡ true → keys.valid key ≡ true → (keys.symbol top n ≡ keys.symbol key n → ⊥) → keys.symbol top n < 2 → keys.symbol key n ≡ 1 → Parts part top key 0 1
  parts_one part top key n valid len agrees both in_top in_key valid_top valid_key apart binary second =
      parts_of part top key n 0 1 valid len agrees both in_top in_key valid_top valid_key (omega (arith, apart)) second

  pub parts_zero : (part top key : K) (n : ℕ) → keys.valid part ≡ true → keys.len part ≡ n → keys.agree n part top ≡ true → keys.agree n top key ≡ true → n < keys.len top → n < keys.len key → keys.valid top ≡ true → keys.valid key ≡ true → (keys.symbol top n ≡ keys.symbol key n → ⊥) → keys.symbol top n < 2 → keys.symbol key n ≡ 0 → Parts part top key 1 0
  parts_zero part top key n valid len agrees both in_top in_key valid_top valid_key apart binary second =
      parts_of part top key n 1 0 valid len agrees both in_top in_key valid_top valid_key (omega (arith, apart)) second

module _ {K V : Type 0} (keys : Keys K) (laws : KeyLaws keys) where
  abbrev pub listed : List (PlainNode K V) → ℕ → List (K × V)
  listed nodes number = (stands keys nodes number).list

  -- ---- what a node stands for

  pub all_begin : (top : K) (value : Option V) (zeros ones : List (K × V)) → keys.valid top ≡ true → AllUnder keys laws top 0 zeros → AllUnder keys laws top 1 ones → AllBegin keys laws top (own top value ++ (zeros ++ ones))
  all_begin top value zeros ones valid z o =
      all_append (λ e. Begins keys top e.0) (own top value) (zeros ++ ones) (own_begins keys laws top value valid)
      (all_append (λ e. Begins keys top e.0) zeros ones
      (all_map (λ e. Under keys top 0 e.0) (λ e. Begins keys top e.0) zeros (λ e u. under_begins keys laws top e.0 0 u) z)
      (all_map (λ e. Under keys top 1 e.0) (λ e. Begins keys top e.0) ones (λ e u. under_begins keys laws top e.0 1 u) o))

  pub listed_at : (nodes : List (PlainNode K V)) (at : ℕ) (n : PlainNode K V) → IsAt keys nodes at n → listed nodes at ≡ own n.key n.value ++ (listed nodes n.zero ++ listed nodes n.one)
  listed_at nodes at n is = ap (λ (s : Sub K V). s.list) is.sub

  pub begins_at : (nodes : List (PlainNode K V)) (at : ℕ) (n : PlainNode K V) → IsAt keys nodes at n → AllBegin keys laws n.key (listed nodes at)
  begins_at nodes at n is =
      subst (λ es. AllByRecursion (λ e. Begins keys n.key e.0) es) (sym (listed_at nodes at n is))
      (all_begin n.key n.value (listed nodes n.zero) (listed nodes n.one) is.node.valid is.node.zero.under is.node.one.under)

  pub pushed_list : (old new : List (PlainNode K V)) (n : PlainNode K V) (number : ℕ) → Pushed keys old new n number → listed new number ≡ own n.key n.value ++ (listed old n.zero ++ listed old n.one)
  pushed_list old new n number p = ap (λ (s : Sub K V). s.list) p.sub

  pub within_subs : (nodes : List (PlainNode K V)) (number : ℕ) → number ≤ length nodes → number < length (subs_of keys nodes)
  within_subs nodes number h = omega (arith, length_subs_of keys nodes)

  pub kept_list : (old new : List (PlainNode K V)) (number : ℕ) → Extends keys old new → number < length (subs_of keys old) → listed new number ≡ listed old number
  kept_list old new number ext h = ap (λ (s : Sub K V). s.list) (ext.keeps number (omega (arith, length_subs_of keys old)))

  -- where a node is a kid, its key is under the top
  pub kid_key : (nodes : List (PlainNode K V)) (at : ℕ) (n : PlainNode K V) (top : K) (symbol : ℕ) → IsAt keys nodes at n → IsKid keys (subs_of keys nodes) top symbol at → Under keys top symbol n.key
  kid_key nodes at n top symbol is kid = elim kid.none_or_under as (λ _. Under keys top symbol n.key) [
    | inl none ↦ absurd (omega (arith, none, is.zero_before))
    | inr some ↦ subst (λ k. Under keys top symbol k) (some_same some.0 n.key (sym some.1 ∙ ap (λ (s : Sub K V). s.key) is.sub)) some.2
  ]

  -- a node that was pushed is a kid where its key and its entries are under the top
  pub pushed_kid : (old new : List (PlainNode K V)) (n : PlainNode K V) (number : ℕ) (top : K) (symbol : ℕ) → Pushed keys old new n number → Under keys top symbol n.key → AllUnder keys laws top symbol (listed new number) → IsKid keys (subs_of keys new) top symbol number
  pushed_kid old new n number top symbol p u all = record {
    before = within_subs new number p.within;
    under = all;
    none_or_under = inr (n.key, ap (λ (s : Sub K V). s.key) p.sub, u);
  }

  -- ---- the ways to put a value at a key

  -- the number stands for the entries with the value at the key, and the pushed node's key is under each top under which the key is
  finish : (old mid new : List (PlainNode K V)) (at : ℕ) (n : PlainNode K V) (key : K) (v : V) (number : ℕ) → Extends keys old mid → Pushed keys mid new n number
      → listed new number ≡ insert_entry keys.order (listed old at) key v
      → ((top : K) (symbol : ℕ) → Under keys top symbol key → IsKid keys (subs_of keys old) top symbol at → Under keys top symbol n.key)
      → Put keys old new at key v number
  finish old mid new at n key v number ext p list under = record {
    extends = extends_along keys old mid new ext p.extends;
    within = p.within;
    list = list;
    kid = λ top symbol u kid.
        pushed_kid mid new n number top symbol p (under top symbol u kid)
        (subst (λ es. AllByRecursion (λ e. Under keys top symbol e.0) es) (sym list) (all_inserted keys.order (λ k. Under keys top symbol k) key v (listed old at) u kid.under));
  }

  pub put_none : (old new : List (PlainNode K V)) (key : K) (v : V) (number : ℕ) → AreWell keys old → Pushed keys old new (record { key = key; value = Some v; zero = 0; one = 0 }) number → Put keys old new 0 key v number
  put_none old new key v number well p =
      let e = of_none keys old in
      finish old old new 0 (record { key = key; value = Some v; zero = 0; one = 0 }) key v number (extends_itself keys old well) p
      (pushed_list old new (record { key = key; value = Some v; zero = 0; one = 0 }) number p ∙ ap (λ (s : Sub K V). (key, v) ∷ (s.list ++ s.list)) e ∙ ap (λ (s : Sub K V). insert_entry keys.order s.list key v) (sym e))
      (λ top symbol u kid. u)

  same_step : (key : K) (v : V) (value : Option V) (rest : List (K × V)) → Before keys.order key rest → insert_entry keys.order (own key value ++ rest) key v ≡ (key, v) ∷ rest
  same_step key v None rest before = insert_before keys.order key v rest before
  same_step key v (Some w) rest before = ap (λ o. match_ordering o ((key, v) ∷ (key, w) ∷ rest) ((key, v) ∷ rest) ((key, w) ∷ insert_entry keys.order rest key v)) (tied_itself laws.total key)

  pub before_rest : (key : K) (zeros ones : List (K × V)) → keys.valid key ≡ true → AllUnder keys laws key 0 zeros → AllUnder keys laws key 1 ones → Before keys.order key (zeros ++ ones)
  before_rest key zeros ones valid z o = all_append (λ e. keys.order key e.0 ≡ Less) zeros ones (before_under keys laws key 0 zeros valid z) (before_under keys laws key 1 ones valid o)

  pub put_same : (old new : List (PlainNode K V)) (at : ℕ) (n : PlainNode K V) (v : V) (number : ℕ) → AreWell keys old → IsAt keys old at n → Pushed keys old new (record { key = n.key; value = Some v; zero = n.zero; one = n.one }) number → Put keys old new at n.key v number
  put_same old new at n v number well is p =
      finish old old new at (record { key = n.key; value = Some v; zero = n.zero; one = n.one }) n.key v number (extends_itself keys old well) p
      (pushed_list old new (record { key = n.key; value = Some v; zero = n.zero; one = n.one }) number p
      ∙ sym (same_step n.key v n.value (listed old n.zero ++ listed old n.one) (before_rest n.key (listed old n.zero) (listed old n.one) is.node.valid is.node.zero.under is.node.one.under))
      ∙ ap (λ es. insert_entry keys.order es n.key v) (sym (listed_at old at n is)))
      (λ top symbol u kid. u)

  -- all entries of a node that is under the key come behind it
  before_all : (old : List (PlainNode K V)) (at : ℕ) (n : PlainNode K V) (key : K) (symbol : ℕ) → IsAt keys old at n → keys.valid key ≡ true → Under keys key symbol n.key → Before keys.order key (listed old at)
  before_all old at n key symbol is valid u = before_under keys laws key symbol (listed old at) valid (all_further keys laws key n.key symbol (listed old at) u (begins_at old at n is))

  pub put_above_zero : (old new : List (PlainNode K V)) (at : ℕ) (n : PlainNode K V) (key : K) (v : V) (number : ℕ) → AreWell keys old → IsAt keys old at n → keys.valid key ≡ true → Under keys key 0 n.key → Pushed keys old new (record { key = key; value = Some v; zero = at; one = 0 }) number → Put keys old new at key v number
  put_above_zero old new at n key v number well is valid u p =
      finish old old new at (record { key = key; value = Some v; zero = at; one = 0 }) key v number (extends_itself keys old well) p
      (pushed_list old new (record { key = key; value = Some v; zero = at; one = 0 }) number p
      ∙ ap (λ (s : Sub K V). (key, v) ∷ (listed old at ++ s.list)) (of_none keys old)
      ∙ ap (λ es. (key, v) ∷ es) (append-nil (listed old at))
      ∙ sym (insert_before keys.order key v (listed old at) (before_all old at n key 0 is valid u)))
      (λ top symbol w kid. w)

  pub put_above_one : (old new : List (PlainNode K V)) (at : ℕ) (n : PlainNode K V) (key : K) (v : V) (number : ℕ) → AreWell keys old → IsAt keys old at n → keys.valid key ≡ true → Under keys key 1 n.key → Pushed keys old new (record { key = key; value = Some v; zero = 0; one = at }) number → Put keys old new at key v number
  put_above_one old new at n key v number well is valid u p =
      finish old old new at (record { key = key; value = Some v; zero = 0; one = at }) key v number (extends_itself keys old well) p
      (pushed_list old new (record { key = key; value = Some v; zero = 0; one = at }) number p
      ∙ ap (λ (s : Sub K V). (key, v) ∷ (s.list ++ listed old at)) (of_none keys old)
      ∙ sym (insert_before keys.order key v (listed old at) (before_all old at n key 1 is valid u)))
      (λ top symbol w kid. w)

  -- ---- a key beside a node

  leaf_list : (old mid : List (PlainNode K V)) (key : K) (v : V) (leaf : ℕ) → Pushed keys old mid (record { key = key; value = Some v; zero = 0; one = 0 }) leaf → listed mid leaf ≡ (key, v) ∷ []
  leaf_list old mid key v leaf p = pushed_list old mid (record { key = key; value = Some v; zero = 0; one = 0 }) leaf p ∙ ap (λ (s : Sub K V). (key, v) ∷ (s.list ++ s.list)) (of_none keys old)

  pub put_beside_one : (old mid new : List (PlainNode K V)) (at : ℕ) (n : PlainNode K V) (key part : K) (v : V) (leaf number : ℕ) → IsAt keys old at n → at ≤ length old → Parts keys laws part n.key key 0 1 → Pushed keys old mid (record { key = key; value = Some v; zero = 0; one = 0 }) leaf → Pushed keys mid new (record { key = part; value = None; zero = at; one = leaf }) number → Put keys old new at key v number
  put_beside_one old mid new at n key part v leaf number is within parts q p =
      let all : AllUnder keys laws part 0 (listed old at) = all_further keys laws part n.key 0 (listed old at) parts.first (begins_at old at n is) in
      finish old mid new at (record { key = part; value = None; zero = at; one = leaf }) key v number q.extends p
      (pushed_list mid new (record { key = part; value = None; zero = at; one = leaf }) number p
      ∙ ap (λ es. es ++ listed mid leaf) (kept_list old mid at q.extends (within_subs old at within))
      ∙ ap (λ es. listed old at ++ es) (leaf_list old mid key v leaf q)
      ∙ sym (insert_behind keys.order key v (listed old at) [] (behind_side keys laws part key 0 1 (listed old at) (omega arith) parts.second all))
      ∙ ap (λ es. insert_entry keys.order es key v) (append-nil (listed old at)))
      (λ top symbol u kid. middle keys laws top part n.key key 0 1 symbol parts (zero_not_one keys laws) (kid_key old at n top symbol is kid) u)

  pub put_beside_zero : (old mid new : List (PlainNode K V)) (at : ℕ) (n : PlainNode K V) (key part : K) (v : V) (leaf number : ℕ) → IsAt keys old at n → at ≤ length old → Parts keys laws part n.key key 1 0 → Pushed keys old mid (record { key = key; value = Some v; zero = 0; one = 0 }) leaf → Pushed keys mid new (record { key = part; value = None; zero = leaf; one = at }) number → Put keys old new at key v number
  put_beside_zero old mid new at n key part v leaf number is within parts q p =
      let all : AllUnder keys laws part 1 (listed old at) = all_further keys laws part n.key 1 (listed old at) parts.first (begins_at old at n is) in
      finish old mid new at (record { key = part; value = None; zero = leaf; one = at }) key v number q.extends p
      (pushed_list mid new (record { key = part; value = None; zero = leaf; one = at }) number p
      ∙ ap (λ es. listed mid leaf ++ es) (kept_list old mid at q.extends (within_subs old at within))
      ∙ ap (λ es. es ++ listed old at) (leaf_list old mid key v leaf q)
      ∙ sym (insert_before keys.order key v (listed old at) (before_side keys laws part key 0 1 (listed old at) (omega arith) parts.second all)))
      (λ top symbol u kid. middle keys laws top part n.key key 1 0 symbol parts (one_not_zero keys laws) (kid_key old at n top symbol is kid) u)

  -- ---- a key under a node

  pub put_below_zero : (old mid new : List (PlainNode K V)) (at : ℕ) (n : PlainNode K V) (key : K) (v : V) (left number : ℕ) → IsAt keys old at n → Under keys n.key 0 key → Put keys old mid n.zero key v left → Pushed keys mid new (record { key = n.key; value = n.value; zero = left; one = n.one }) number → Put keys old new at key v number
  put_below_zero old mid new at n key v left number is u q p =
      finish old mid new at (record { key = n.key; value = n.value; zero = left; one = n.one }) key v number q.extends p
      (pushed_list mid new (record { key = n.key; value = n.value; zero = left; one = n.one }) number p
      ∙ ap (λ es. own n.key n.value ++ (es ++ listed mid n.one)) q.list
      ∙ ap (λ es. own n.key n.value ++ (insert_entry keys.order (listed old n.zero) key v ++ es)) (kept_list old mid n.one q.extends is.node.one.before)
      ∙ ap (λ es. own n.key n.value ++ es) (sym (insert_first keys.order key v (listed old n.zero) (listed old n.one) (before_side keys laws n.key key 0 1 (listed old n.one) (omega arith) u is.node.one.under)))
      ∙ sym (insert_behind keys.order key v (own n.key n.value) (listed old n.zero ++ listed old n.one) (behind_own keys laws n.key key 0 n.value is.node.valid u))
      ∙ ap (λ es. insert_entry keys.order es key v) (sym (listed_at old at n is)))
      (λ top symbol w kid. kid_key old at n top symbol is kid)

  pub put_below_one : (old mid new : List (PlainNode K V)) (at : ℕ) (n : PlainNode K V) (key : K) (v : V) (one number : ℕ) → IsAt keys old at n → Under keys n.key 1 key → Put keys old mid n.one key v one → Pushed keys mid new (record { key = n.key; value = n.value; zero = n.zero; one = one }) number → Put keys old new at key v number
  put_below_one old mid new at n key v one number is u q p =
      finish old mid new at (record { key = n.key; value = n.value; zero = n.zero; one = one }) key v number q.extends p
      (pushed_list mid new (record { key = n.key; value = n.value; zero = n.zero; one = one }) number p
      ∙ ap (λ es. own n.key n.value ++ (listed mid n.zero ++ es)) q.list
      ∙ ap (λ es. own n.key n.value ++ (es ++ insert_entry keys.order (listed old n.one) key v)) (kept_list old mid n.zero q.extends is.node.zero.before)
      ∙ ap (λ es. own n.key n.value ++ es) (sym (insert_behind keys.order key v (listed old n.zero) (listed old n.one) (behind_side keys laws n.key key 0 1 (listed old n.zero) (omega arith) u is.node.zero.under)))
      ∙ sym (insert_behind keys.order key v (own n.key n.value) (listed old n.zero ++ listed old n.one) (behind_own keys laws n.key key 1 n.value is.node.valid u))
      ∙ ap (λ es. insert_entry keys.order es key v) (sym (listed_at old at n is)))
      (λ top symbol w kid. kid_key old at n top symbol is kid)

  -- ---- what is pushed is a node

  pub leaf_node : (old : List (PlainNode K V)) (key : K) (value : Option V) → keys.valid key ≡ true → IsNode keys (subs_of keys old) (record { key = key; value = value; zero = 0; one = 0 })
  leaf_node old key value valid = record { valid = valid; zero = no_kid keys old key 0; one = no_kid keys old key 1 }

  pub at_kid : (old : List (PlainNode K V)) (at : ℕ) (n : PlainNode K V) (top : K) (symbol : ℕ) → IsAt keys old at n → at ≤ length old → Under keys top symbol n.key → IsKid keys (subs_of keys old) top symbol at
  at_kid old at n top symbol is within u = record {
    before = within_subs old at within;
    under = all_further keys laws top n.key symbol (listed old at) u (begins_at old at n is);
    none_or_under = inr (n.key, ap (λ (s : Sub K V). s.key) is.sub, u);
  }

  pub above_zero_node : (old : List (PlainNode K V)) (at : ℕ) (n : PlainNode K V) (key : K) (value : Option V) → IsAt keys old at n → at ≤ length old → keys.valid key ≡ true → Under keys key 0 n.key → IsNode keys (subs_of keys old) (record { key = key; value = value; zero = at; one = 0 })
  above_zero_node old at n key value is within valid u = record { valid = valid; zero = at_kid old at n key 0 is within u; one = no_kid keys old key 1 }

  pub above_one_node : (old : List (PlainNode K V)) (at : ℕ) (n : PlainNode K V) (key : K) (value : Option V) → IsAt keys old at n → at ≤ length old → keys.valid key ≡ true → Under keys key 1 n.key → IsNode keys (subs_of keys old) (record { key = key; value = value; zero = 0; one = at })
  above_one_node old at n key value is within valid u = record { valid = valid; zero = no_kid keys old key 0; one = at_kid old at n key 1 is within u }

  leaf_kid : (old mid : List (PlainNode K V)) (key part : K) (v : V) (leaf symbol : ℕ) → Under keys part symbol key → Pushed keys old mid (record { key = key; value = Some v; zero = 0; one = 0 }) leaf → IsKid keys (subs_of keys mid) part symbol leaf
  leaf_kid old mid key part v leaf symbol u q =
      pushed_kid old mid (record { key = key; value = Some v; zero = 0; one = 0 }) leaf part symbol q u
      (subst (λ es. AllByRecursion (λ e. Under keys part symbol e.0) es) (sym (leaf_list old mid key v leaf q)) (u, tt))

  pub beside_one_node : (old mid : List (PlainNode K V)) (at : ℕ) (n : PlainNode K V) (key part : K) (v : V) (leaf : ℕ) → IsAt keys old at n → at ≤ length old → Parts keys laws part n.key key 0 1 → Pushed keys old mid (record { key = key; value = Some v; zero = 0; one = 0 }) leaf → IsNode keys (subs_of keys mid) (record { key = part; value = None; zero = at; one = leaf })
  beside_one_node old mid at n key part v leaf is within parts q = record {
    valid = parts.valid;
    zero = kid_after keys old mid part 0 at q.extends (at_kid old at n part 0 is within parts.first);
    one = leaf_kid old mid key part v leaf 1 parts.second q;
  }

  pub beside_zero_node : (old mid : List (PlainNode K V)) (at : ℕ) (n : PlainNode K V) (key part : K) (v : V) (leaf : ℕ) → IsAt keys old at n → at ≤ length old → Parts keys laws part n.key key 1 0 → Pushed keys old mid (record { key = key; value = Some v; zero = 0; one = 0 }) leaf → IsNode keys (subs_of keys mid) (record { key = part; value = None; zero = leaf; one = at })
  beside_zero_node old mid at n key part v leaf is within parts q = record {
    valid = parts.valid;
    zero = leaf_kid old mid key part v leaf 0 parts.second q;
    one = kid_after keys old mid part 1 at q.extends (at_kid old at n part 1 is within parts.first);
  }

  pub below_zero_node : (old mid : List (PlainNode K V)) (at : ℕ) (n : PlainNode K V) (key : K) (v : V) (left : ℕ) → IsAt keys old at n → Under keys n.key 0 key → Put keys old mid n.zero key v left → IsNode keys (subs_of keys mid) (record { key = n.key; value = n.value; zero = left; one = n.one })
  below_zero_node old mid at n key v left is u q = record {
    valid = is.node.valid;
    zero = q.kid n.key 0 u is.node.zero;
    one = kid_after keys old mid n.key 1 n.one q.extends is.node.one;
  }

  pub below_one_node : (old mid : List (PlainNode K V)) (at : ℕ) (n : PlainNode K V) (key : K) (v : V) (one : ℕ) → IsAt keys old at n → Under keys n.key 1 key → Put keys old mid n.one key v one → IsNode keys (subs_of keys mid) (record { key = n.key; value = n.value; zero = n.zero; one = one })
  below_one_node old mid at n key v one is u q = record {
    valid = is.node.valid;
    zero = kid_after keys old mid n.key 0 n.zero q.extends is.node.zero;
    one = q.kid n.key 1 u is.node.one;
  }
