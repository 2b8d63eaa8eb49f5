-- Keys that begin with others, and where they stand in the order.
use Rattle.std.proofs.Common.{◌≡◌, ℕ, ◌+◌, ◌<◌, true, List, Option, Some, None, sym, ap, ◌∙◌, subst, arith}
use Rattle.std.specs.List.{AllByRecursion}
use Rattle.std.specs.Ordering.{ordering_reverse}
use Rattle.std.specs.declared.cmp.Ordering.TheVariants.{Less, Greater}
use Rattle.trie_keys.specs.Keys.{Keys, KeyLaws, Under, Begins}
use Rattle.trie_keys.specs.Scan.{own}
use Rattle.trie_keys.proofs.Entries.{all_map, Before, Behind}

module _ {K : Type 0} (keys : Keys K) (laws : KeyLaws keys) where
  pub turned : (a b : K) → keys.order a b ≡ Less → keys.order b a ≡ Greater
  turned a b e = laws.total.antisymm b a ∙ ap ordering_reverse e

  pub top_first : (top key : K) (symbol : ℕ) → keys.valid top ≡ true → Under keys top symbol key → keys.order top key ≡ Less
  top_first top key symbol valid u = laws.shorter_first top key valid u.agrees u.longer

  pub begins_itself : (top : K) → keys.valid top ≡ true → Begins keys top top
  begins_itself top valid = record { valid = valid; agrees = laws.itself (keys.len top) top; long = omega arith }

  pub under_begins : (top key : K) (symbol : ℕ) → Under keys top symbol key → Begins keys top key
  under_begins top key symbol u = record { valid = u.valid; agrees = u.agrees; long = omega (arith, u.longer) }

  -- the keys of a smaller symbol come first
  pub sides : (top a b : K) (s t : ℕ) → s < t → Under keys top s a → Under keys top t b → keys.order a b ≡ Less
  sides top a b s t lt u w =
      laws.symbols_rise (keys.len top) a b (laws.along (keys.len top) a top b (laws.back (keys.len top) top a u.agrees) w.agrees)
      (subst (λ n. n < keys.symbol b (keys.len top)) (sym u.next) (subst (λ n. s < n) (sym w.next) lt))

  -- what begins with a key that is under another is under that one
  pub further : (top mid key : K) (symbol : ℕ) → Under keys top symbol mid → Begins keys mid key → Under keys top symbol key
  further top mid key symbol u b = record {
    valid = b.valid;
    agrees = laws.along (keys.len top) top mid key u.agrees (laws.fewer (keys.len top) (keys.len mid) mid key (omega (arith, u.longer)) b.agrees);
    longer = omega (arith, u.longer, b.long);
    next = sym (laws.symbols_agree (keys.len top) mid key (laws.fewer (keys.len top + 1) (keys.len mid) mid key (omega (arith, u.longer)) b.agrees)) ∙ u.next;
  }

  module _ {V : Type 0} where
    abbrev pub AllUnder : K → ℕ → List (K × V) → Type 0
    AllUnder top symbol es = AllByRecursion (λ e. Under keys top symbol e.0) es

    abbrev pub AllBegin : K → List (K × V) → Type 0
    AllBegin top es = AllByRecursion (λ e. Begins keys top e.0) es

    pub before_under : (top : K) (symbol : ℕ) (es : List (K × V)) → keys.valid top ≡ true → AllUnder top symbol es → Before keys.order top es
    before_under top symbol es valid all = all_map (λ e. Under keys top symbol e.0) (λ e. keys.order top e.0 ≡ Less) es (λ e u. top_first top e.0 symbol valid u) all

    pub before_side : (top key : K) (s t : ℕ) (es : List (K × V)) → s < t → Under keys top s key → AllUnder top t es → Before keys.order key es
    before_side top key s t es lt u all = all_map (λ e. Under keys top t e.0) (λ e. keys.order key e.0 ≡ Less) es (λ e w. sides top key e.0 s t lt u w) all

    pub behind_side : (top key : K) (s t : ℕ) (es : List (K × V)) → s < t → Under keys top t key → AllUnder top s es → Behind keys.order key es
    behind_side top key s t es lt u all = all_map (λ e. Under keys top s e.0) (λ e. keys.order key e.0 ≡ Greater) es (λ e w. turned e.0 key (sides top e.0 key s t lt w u)) all

    pub behind_own : (top key : K) (symbol : ℕ) (value : Option V) → keys.valid top ≡ true → Under keys top symbol key → Behind keys.order key (own top value)
    behind_own top key symbol None valid u = tt
    behind_own top key symbol (Some v) valid u = (turned top key (top_first top key symbol valid u), tt)

    pub own_begins : (top : K) (value : Option V) → keys.valid top ≡ true → AllBegin top (own top value)
    own_begins top None valid = tt
    own_begins top (Some v) valid = (begins_itself top valid, tt)

    pub all_further : (top mid : K) (symbol : ℕ) (es : List (K × V)) → Under keys top symbol mid → AllBegin mid es → AllUnder top symbol es
    all_further top mid symbol es u all = all_map (λ e. Begins keys mid e.0) (λ e. Under keys top symbol e.0) es (λ e b. further top mid e.0 symbol u b) all
