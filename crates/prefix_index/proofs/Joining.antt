-- A walk that joins sets finds the numbers that a scan over the entries finds.
use Rattle.std.proofs.Common.{◌≡◌, ℕ, ◌<◌, Bool, true, false, cond, ◌&&◌, ◌||◌, List, [], ◌∷◌, Option, Some, None, refl, sym, ap, ◌∙◌, arith}
use Rattle.std.specs.List.{find, list_any}
use Rattle.std.specs.Option.{is_some, option_map}
use Rattle.ip_prefix.specs.declared.Addr.TheVariants.{V4, V6}
use Rattle.ip_prefix.specs.Prefix.{contains}
use Rattle.trie_keys.specs.declared.marked.Marked.{Marked}
use Rattle.trie_keys.specs.Keys.{Keys, KeyLaws}
use Rattle.trie_keys.specs.Scan.{last_where, option_else}
use Rattle.trie_keys.specs.Sorting.{AreEntries}
use Rattle.prefix_index.specs.Bits.{PlainBits, bits_keys}
use Rattle.prefix_index.specs.Nodes.{IsAt, stands}
use Rattle.prefix_index.specs.PlainNode.{PlainNode}
use Rattle.prefix_index.specs.Ranked.{ranked_prefixes}
use Rattle.prefix_index.specs.Walk.{DifferAt, any_has, has_at, is_hit, own_has, own_hit}
use Rattle.prefix_index.proofs.Finding.{longest_four, longest_six}
use Rattle.prefix_index.proofs.Walking.{walk_none, walk_away, walk_one, walk_zero, walk_here}

module _ {X : Type 0} where
  some_else : (a b : Option X) → is_some (option_else a b) ≡ (is_some a || is_some b)
  some_else None b = refl
  some_else (Some x) b = refl

  last_with : (b : Bool) (x : X) (o : Option X) → is_some (option_else o (cond b (Some x) None)) ≡ (b || is_some o)
  last_with true x None = refl
  last_with true x (Some y) = refl
  last_with false x None = refl
  last_with false x (Some y) = refl

  first_with : (b : Bool) (x : X) (o : Option X) → is_some (cond b (Some x) o) ≡ (b || is_some o)
  first_with true x o = refl
  first_with false x o = refl

module _ {X : Type 0} (test : X → Bool) where
  -- an entry passes where a last one is found, and where a first one is
  any_last : (es : List X) → list_any test es ≡ is_some (last_where test es)
  any_last [] = refl
  any_last (e ∷ es) = ap (λ b. test e || b) (any_last es) ∙ sym (last_with (test e) e (last_where test es))

  any_first : (es : List X) → list_any test es ≡ is_some (find test es)
  any_first [] = refl
  any_first (e ∷ es) = ap (λ b. test e || b) (any_first es) ∙ sym (first_with (test e) e (find test es))

some_map : {X Y : Type 0} (f : X → Y) (o : Option X) → is_some (option_map f o) ≡ is_some o
some_map f None = refl
some_map f (Some x) = refl

is_there : {X : Type 0} (b : Bool) (x : X) → is_some (cond b (Some x) None) ≡ b
is_there true x = refl
is_there false x = refl

own_of : {K N M : Type 0} (has : N → ℕ → Bool) (number : ℕ) (key : K) (value : Option (Marked N M)) → is_some (own_hit (has_at has number) key value) ≡ own_has has number value
own_of has number key None = refl
own_of {K = K} {N = N} {M = M} has number key (Some v) = let entry : K × Marked N M = (key, v) in is_there (has v.value number) entry

module _ {K N M : Type 0} (keys : Keys K) (laws : KeyLaws keys) (has : N → ℕ → Bool) (nodes : List (PlainNode K (Marked N M))) (number : ℕ) (key : K) where
  abbrev acts : Marked N M → Bool
  acts = has_at has number

  -- whether the number is in a set of those for which a node's number stands
  abbrev joined : ℕ → Bool
  joined at = any_has keys has key number (stands keys nodes at).list

  as_last : (at : ℕ) → joined at ≡ is_some (last_where (is_hit keys acts key) (stands keys nodes at).list)
  as_last at = any_last (is_hit keys acts key) (stands keys nodes at).list

  -- what a kid and the node itself have
  both : (kid : ℕ) (top : K) (value : Option (Marked N M)) → is_some (option_else (last_where (is_hit keys acts key) (stands keys nodes kid).list) (own_hit acts top value)) ≡ (joined kid || own_has has number value)
  both kid top value = some_else _ (own_hit acts top value) ∙ (λ i. sym (as_last kid) i || own_of has number top value i)

  pub joined_none : (at : ℕ) (result : Bool) → at ≡ 0 → result ≡ false → result ≡ joined at
  joined_none at result none is = is ∙ sym (as_last 0 ∙ ap is_some (walk_none keys laws acts nodes key)) ∙ ap joined (sym none)

  -- the key leaves that of the node before its end
  pub joined_away : (at common : ℕ) (n : PlainNode K (Marked N M)) (result : Bool) → IsAt keys nodes at n → common < keys.len n.key → DifferAt keys common n.key key → result ≡ false → result ≡ joined at
  joined_away at common n result here short differ is = is ∙ sym (as_last at ∙ ap is_some (walk_away keys laws acts nodes at n key common here short differ))

  -- the key begins with that of the node
  module _ (at common : ℕ) (n : PlainNode K (Marked N M)) (result : Bool) (here : IsAt keys nodes at n) (whole : common ≡ keys.len n.key) (agrees : keys.agree common n.key key ≡ true) where
    agree : keys.agree (keys.len n.key) n.key key ≡ true
    agree = ap (λ m. keys.agree m n.key key) (sym whole) ∙ agrees

    next_is : (symbol : ℕ) → keys.symbol key common ≡ symbol → keys.symbol key (keys.len n.key) ≡ symbol
    next_is symbol next = ap (keys.symbol key) (sym whole) ∙ next

    pub joined_one : (under : Bool) → common < keys.len key → keys.symbol key common ≡ 1 → under ≡ joined n.one → result ≡ (under || own_has has number n.value) → result ≡ joined at
    joined_one under short next kid is =
        is
        ∙ ap (λ b. b || own_has has number n.value) kid
        ∙ sym (as_last at ∙ ap is_some (walk_one keys laws acts nodes at n key here agree (omega (arith, whole, short)) (next_is 1 next)) ∙ both n.one n.key n.value)

    pub joined_zero : (under : Bool) → common < keys.len key → keys.symbol key common ≡ 0 → under ≡ joined n.zero → result ≡ (under || own_has has number n.value) → result ≡ joined at
    joined_zero under short next kid is =
        is
        ∙ ap (λ b. b || own_has has number n.value) kid
        ∙ sym (as_last at ∙ ap is_some (walk_zero keys laws acts nodes at n key here agree (omega (arith, whole, short)) (next_is 0 next)) ∙ both n.zero n.key n.value)

    pub joined_here : common ≡ keys.len key → result ≡ own_has has number n.value → result ≡ joined at
    joined_here same is = is ∙ sym (as_last at ∙ ap is_some (walk_here keys laws acts nodes at n key here agree (sym whole ∙ same)) ∙ own_of has number n.key n.value)

-- the entries of one family have what all entries in order of precedence have for an address of the family
module _ {N M : Type 0} (has : N → ℕ → Bool) (four six : List (PlainBits × Marked N M)) (address number : ℕ) where
  pub joined_four : AreEntries (bits_keys 32) four → any_has (bits_keys 32) has (record { number = address; len = 32 }) number four ≡ list_any (λ e. contains e.0 (V4 address) && has e.1.value number) (ranked_prefixes four six)
  joined_four are =
      any_last _ four
      ∙ sym (some_map _ (last_where _ four))
      ∙ ap is_some (longest_four (has_at has number) four six address are)
      ∙ sym (any_first _ (ranked_prefixes four six))

  pub joined_six : AreEntries (bits_keys 128) six → any_has (bits_keys 128) has (record { number = address; len = 128 }) number six ≡ list_any (λ e. contains e.0 (V6 address) && has e.1.value number) (ranked_prefixes four six)
  joined_six are =
      any_last _ six
      ∙ sym (some_map _ (last_where _ six))
      ∙ ap is_some (longest_six (has_at has number) four six address are)
      ∙ sym (any_first _ (ranked_prefixes four six))
