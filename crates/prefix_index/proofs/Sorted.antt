-- Entries by prefix, sorted by precedence.
use Rattle.std.proofs.Common.{◌≡◌, ℕ, suc, ◌+◌, ◌<◌, Bool, true, false, List, [], ◌∷◌, ◌++◌, length, map, refl, sym, ap, ◌∙◌, subst, arith, slice_index_or}
use Rattle.std.proofs.lemmas.List.Sorted.{ranks_by, sorted_far, IsPermutation-map}
use Rattle.std.proofs.lemmas.Map.Keys.{IsDistinct-from_sorted, IsDistinct-IsPermutation}
use Rattle.std.specs.BTreeMap.{is_at}
use Rattle.std.specs.Cmp.{eq_by_cmp_equiv}
use Rattle.std.specs.List.{AllByRecursion, IsDistinct}
use Rattle.std.specs.List.Sorted.{IsPermutation, IsSortedBy, IsStrictlySortedBy}
use Rattle.std.specs.Map.{keys_of, lookup}
use Rattle.std.specs.Ordering.{eq_by_cmp, is_eq, is_lt, ordering_reverse}
use Rattle.std.specs.declared.cmp.Ordering.{Ordering}
use Rattle.std.specs.declared.cmp.Ordering.TheVariants.{Less, Equal, Greater}
use Rattle.ip_prefix.specs.Prefix.{PlainPrefix, prefix_order}
use Rattle.prefix_index.specs.Bits.{PlainBits, bits_order}
use Rattle.prefix_index.proofs.Order.{prefix_order_total}
use Rattle.prefix_index.specs.Ranked.{prefix_four, prefix_six, prefixes, ranked_prefixes}
use Rattle.prefix_index.proofs.Permuting.{found_moved}
use Rattle.prefix_index.proofs.Ranking.{four_at, six_at, four_not_six, look_ranked, same_lists, sorted_ranked}

all_by_index : {X : Type 0} (P : X → Type 0) (xs : List X) → ((k : ℕ) (d : X) → k < length xs → P (slice_index_or xs k d)) → AllByRecursion P xs
all_by_index P [] f = tt
all_by_index P (x ∷ xs) f = (f 0 x (omega arith), all_by_index P xs (λ k d h. f (suc k) d (omega (arith, h))))

less_of : (o p : Ordering) → p ≡ ordering_reverse o → is_lt p ≡ false → is_eq o ≡ false → o ≡ Less
less_of Less p e f g = refl
less_of Equal p e f g = cc g
less_of Greater p e f g = let k : true ≡ false = sym (ap is_lt e) ∙ f in cc k

module _ {V : Type 0} where
  abbrev mapped : (PlainBits → PlainPrefix) → List (PlainBits × V) → List (PlainPrefix × V)
  mapped of es = map (λ e. (of e.0, e.1)) es

  abbrev AreApart : List (PlainPrefix × V) → Type 0
  AreApart es = IsDistinct (eq_by_cmp prefix_order) (keys_of es)

  abbrev lt : PlainPrefix × V → PlainPrefix × V → Bool
  lt x y = is_lt (prefix_order x.0 y.0)

  apart_head : (of : PlainBits → PlainPrefix) → ((a b : PlainBits) → is_at (prefix_order (of a)) (of b) ≡ is_at (bits_order a) b) → (x : PlainBits) (es : List (PlainBits × V)) → AllByRecursion (λ y. eq_by_cmp bits_order x y ≡ false) (keys_of es) → AllByRecursion (λ y. eq_by_cmp prefix_order (of x) y ≡ false) (keys_of (mapped of es))
  apart_head of at x [] all = tt
  apart_head of at x (e ∷ es) all = (at x e.0 ∙ all.0, apart_head of at x es all.1)

  apart_mapped : (of : PlainBits → PlainPrefix) → ((a b : PlainBits) → is_at (prefix_order (of a)) (of b) ≡ is_at (bits_order a) b) → (es : List (PlainBits × V)) → IsDistinct (eq_by_cmp bits_order) (keys_of es) → AreApart (mapped of es)
  unfolding IsDistinct
  apart_mapped of at [] apart = tt
  apart_mapped of at (e ∷ es) apart = (apart_head of at e.0 es apart.0, apart_mapped of at es apart.1)

  none_other : (x : PlainBits) (six : List (PlainBits × V)) → AllByRecursion (λ y. eq_by_cmp prefix_order (prefix_four x) y ≡ false) (keys_of (mapped prefix_six six))
  none_other x [] = tt
  none_other x (e ∷ es) = (four_not_six x e.0, none_other x es)

  both_apart : (x : PlainPrefix) (es fs : List (PlainPrefix × V)) → AllByRecursion (λ y. eq_by_cmp prefix_order x y ≡ false) (keys_of es) → AllByRecursion (λ y. eq_by_cmp prefix_order x y ≡ false) (keys_of fs) → AllByRecursion (λ y. eq_by_cmp prefix_order x y ≡ false) (keys_of (es ++ fs))
  both_apart x [] fs a b = b
  both_apart x (e ∷ es) fs a b = (a.0, both_apart x es fs a.1 b)

  apart_prefixes : (four six : List (PlainBits × V)) → AreApart (mapped prefix_four four) → AreApart (mapped prefix_six six) → AreApart (prefixes four six)
  unfolding IsDistinct
  apart_prefixes [] six a b = b
  apart_prefixes (e ∷ es) six a b = (both_apart (prefix_four e.0) (mapped prefix_four es) (mapped prefix_six six) a.0 (none_other e.0 six), apart_prefixes es six a.1 b)

  rising : (z : PlainPrefix × V) (zs : List (PlainPrefix × V)) → AllByRecursion (λ y. lt y z ≡ false) zs → AllByRecursion (λ y. eq_by_cmp prefix_order z.0 y ≡ false) (keys_of zs) → AllByRecursion (λ y. prefix_order z.0 y ≡ Less) (keys_of zs)
  rising z [] a b = tt
  rising z (y ∷ zs) a b = (less_of (prefix_order z.0 y.0) (prefix_order y.0 z.0) (prefix_order_total.antisymm y.0 z.0) a.0 b.0, rising z zs a.1 b.1)

  rest_sorted : (z : PlainPrefix × V) (zs : List (PlainPrefix × V)) → IsSortedBy lt (z ∷ zs) → IsSortedBy lt zs
  rest_sorted z zs sorted = λ k d low high.
      let more : suc k + 1 ≡ suc (k + 1) = omega arith in
      subst (λ n. lt (slice_index_or (z ∷ zs) n d) (slice_index_or zs k d) ≡ false) more (sorted (suc k) d (omega arith) (omega (arith, high)))

  strictly : (zs : List (PlainPrefix × V)) → IsSortedBy lt zs → AreApart zs → IsStrictlySortedBy prefix_order (keys_of zs)
  unfolding IsDistinct IsStrictlySortedBy
  strictly [] sorted apart = tt
  strictly (z ∷ zs) sorted apart =
      (rising z zs (all_by_index (λ y. lt y z ≡ false) zs (λ k d h. sorted_far lt (ranks_by prefix_order_total (λ e. e.0)) (z ∷ zs) sorted 0 (suc k) d (omega arith) (omega (arith, h)))) apart.0, strictly zs (rest_sorted z zs sorted) apart.1)

  pub joined : (four six fours sixes : List (PlainBits × V)) (none one two : List (PlainPrefix × V)) → fours ≡ four → sixes ≡ six → none ≡ [] → one ≡ none ++ mapped prefix_four fours → two ≡ one ++ mapped prefix_six sixes → two ≡ prefixes four six
  joined four six fours sixes none one two f s n e1 e2 =
      let first : one ≡ mapped prefix_four four = e1 ∙ (λ i. n i ++ mapped prefix_four (f i)) in
      e2 ∙ (λ i. first i ++ mapped prefix_six (s i))

  pub sorted_entries : (four six : List (PlainBits × V)) (zs : List (PlainPrefix × V)) → IsStrictlySortedBy bits_order (keys_of four) → IsStrictlySortedBy bits_order (keys_of six) → IsPermutation (prefixes four six) zs → IsSortedBy lt zs → zs ≡ ranked_prefixes four six
  sorted_entries four six zs s t moved sorted =
      let ps = prefixes four six in
      let apart : AreApart ps =
      apart_prefixes four six
      (apart_mapped prefix_four four_at four (IsDistinct-from_sorted bits_order (keys_of four) s))
      (apart_mapped prefix_six six_at six (IsDistinct-from_sorted bits_order (keys_of six) t)) in
      let rises : IsStrictlySortedBy prefix_order (keys_of zs) =
      strictly zs sorted (IsDistinct-IsPermutation (eq_by_cmp prefix_order) (eq_by_cmp_equiv prefix_order_total).symm (keys_of ps) (keys_of zs) (IsPermutation-map (λ e. e.0) ps zs moved) apart) in
      let found : (q : PlainPrefix) → lookup (is_at (prefix_order q)) zs ≡ lookup (is_at (prefix_order q)) (ranked_prefixes four six) = λ q. sym (found_moved prefix_order_total q ps zs rises moved) ∙ sym (look_ranked q ps) in
      same_lists zs (ranked_prefixes four six) rises (sorted_ranked ps) (λ b. found (prefix_four b)) (λ b. found (prefix_six b))
