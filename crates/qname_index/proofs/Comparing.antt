-- Keys compared label by label.
use Rattle.std.proofs.Common.{◌≡◌, ℕ, ◌≤◌, ◌==◌, true, false, List, [], ◌∷◌, ◌++◌, length, take, drop, refl, sym, ap, ◌∙◌, arith, length-append}
use Rattle.std.proofs.Math.Seq.{take-append_seam, drop-append_seam}
use Rattle.std.proofs.lemmas.Bool.{eqb-false, eqb-true}
use Rattle.std.specs.Cmp.Lexicographic.{slice_cmp}
use Rattle.std.specs.List.{flat_map}
use Rattle.std.specs.Ordering.{ordering_then}
use Rattle.std.specs.declared.cmp.Ordering.{Ordering}
use Rattle.std.specs.declared.cmp.Ordering.TheVariants.{Less, Equal, Greater}
use Rattle.dns_name.specs.Labels.{Label, Name, label_octets}
use Rattle.dns_name.specs.Order.{canonical_order, label_order}

-- what is left of two keys are labels that compare as the names do
pub record AreLeft (mine theirs : List ℕ) (a b : Name) : Type 0 where
  pub my_labels : List Label
  pub their_labels : List Label
  pub my_octets : mine ≡ flat_map label_octets my_labels
  pub their_octets : theirs ≡ flat_map label_octets their_labels
  pub as_names : slice_cmp label_order my_labels their_labels ≡ canonical_order a b

-- labels whose octets these are have a first label, of which the first octet is the length
record HasFirst (labels : List Label) (len : ℕ) (others : List ℕ) : Type 0 where
  pub label : Label
  pub behind : List Label
  pub are : labels ≡ label ∷ behind
  pub there : len ≤ length others
  pub label_is : take len others ≡ label
  pub behind_is : drop len others ≡ flat_map label_octets behind

split_same : (x y : ℕ) (xs ys : List ℕ) → x ∷ xs ≡ y ∷ ys → (x ≡ y) × (xs ≡ ys)
split_same x y xs ys e = (cc e, cc e)

first_of : (labels : List Label) (len : ℕ) (others : List ℕ) → len ∷ others ≡ flat_map label_octets labels → HasFirst labels len others
first_of [] len others e = absurd (cc e)
first_of (m ∷ labels) len others e =
    let rest = flat_map label_octets labels in
    let both : (len ≡ length m) × (others ≡ m ++ rest) = split_same len (length m) others (m ++ rest) e in
    record {
      label = m;
      behind = labels;
      are = refl;
      there = omega (arith, both.0, ap length both.1, length-append m rest);
      label_is = (λ i. take (both.0 i) (both.1 i)) ∙ take-append_seam m rest;
      behind_is = (λ i. drop (both.0 i) (both.1 i)) ∙ drop-append_seam m rest;
    }

no_labels : (labels : List Label) → length (flat_map label_octets labels) ≡ 0 → labels ≡ []
no_labels [] e = refl
no_labels (m ∷ labels) e = absurd (omega (arith, e))

-- the root comes before every other name
before_some : (labels : List Label) → (labels ≡ [] → ⊥) → Less ≡ slice_cmp label_order [] labels
before_some [] some = absurd (some refl)
before_some (m ∷ labels) some = refl

-- ---- of two keys

module _ {mine theirs : List ℕ} {a b : Name} (left : AreLeft mine theirs a b) where
  my_first : (len : ℕ) (others : List ℕ) → mine ≡ len ∷ others → HasFirst left.my_labels len others
  my_first len others first = first_of left.my_labels len others (sym first ∙ left.my_octets)

  their_first : (len : ℕ) (others : List ℕ) → theirs ≡ len ∷ others → HasFirst left.their_labels len others
  their_first len others first = first_of left.their_labels len others (sym first ∙ left.their_octets)

  pub mine_there : (len : ℕ) (others : List ℕ) → mine ≡ len ∷ others → len ≤ length others
  mine_there len others first = (my_first len others first).there

  pub theirs_there : (len : ℕ) (others : List ℕ) → theirs ≡ len ∷ others → len ≤ length others
  theirs_there len others first = (their_first len others first).there

  pub theirs_ended : (len : ℕ) (others : List ℕ) → mine ≡ len ∷ others → length theirs ≡ 0 → Greater ≡ canonical_order a b
  theirs_ended len others here there =
      let first = my_first len others here in
      let none : left.their_labels ≡ [] = no_labels left.their_labels (ap length (sym left.their_octets) ∙ there) in
      (λ i. slice_cmp label_order (sym first.are i) (sym none i)) ∙ left.as_names

  mine_are_none : length mine ≡ 0 → slice_cmp label_order [] left.their_labels ≡ canonical_order a b
  mine_are_none here =
      let none : left.my_labels ≡ [] = no_labels left.my_labels (ap length (sym left.my_octets) ∙ here) in
      (λ i. slice_cmp label_order (sym none i) left.their_labels) ∙ left.as_names

  pub mine_ended : length mine ≡ 0 → false ≡ (length theirs == 0) → Less ≡ canonical_order a b
  mine_ended here some =
      let there : left.their_labels ≡ [] → ⊥ = λ e. eqb-false (length theirs) 0 (sym some) (ap length (left.their_octets ∙ ap (flat_map label_octets) e)) in
      before_some left.their_labels there ∙ mine_are_none here

  pub both_ended : length mine ≡ 0 → true ≡ (length theirs == 0) → Equal ≡ canonical_order a b
  both_ended here none =
      let there : left.their_labels ≡ [] = no_labels left.their_labels (ap length (sym left.their_octets) ∙ eqb-true (length theirs) 0 (sym none)) in
      ap (slice_cmp label_order []) (sym there) ∙ mine_are_none here

-- the first labels of two keys, and what is behind them
pub record AreSplit (mine theirs label other behind beyond : List ℕ) : Type 0 where
  pub my_len : ℕ
  pub my_others : List ℕ
  pub their_len : ℕ
  pub their_others : List ℕ
  pub my_first : mine ≡ my_len ∷ my_others
  pub their_first : theirs ≡ their_len ∷ their_others
  pub label_is : label ≡ take my_len my_others
  pub other_is : other ≡ take their_len their_others
  pub behind_is : behind ≡ drop my_len my_others
  pub beyond_is : beyond ≡ drop their_len their_others

pub are_split : {mine theirs label other behind beyond my_others their_others : List ℕ} {my_len my_octet their_len their_octet : ℕ}
    → mine ≡ my_octet ∷ my_others → my_len ≡ my_octet → label ≡ take my_len my_others → behind ≡ drop my_len my_others
    → theirs ≡ their_octet ∷ their_others → their_len ≡ their_octet → other ≡ take their_len their_others → beyond ≡ drop their_len their_others
    → AreSplit mine theirs label other behind beyond
are_split {my_others = my_others} {their_others = their_others} {my_len = my_len} {their_len = their_len} here my_count at away there their_count at_other away_other = record {
  my_len = my_len;
  my_others = my_others;
  their_len = their_len;
  their_others = their_others;
  my_first = here ∙ ap (λ n. n ∷ my_others) (sym my_count);
  their_first = there ∙ ap (λ n. n ∷ their_others) (sym their_count);
  label_is = at;
  other_is = at_other;
  behind_is = away;
  beyond_is = away_other;
}

decided : (o p q : Ordering) → (o ≡ Equal → ⊥) → ordering_then o p ≡ q → o ≡ q
decided Less p q not same = same
decided Equal p q not same = absurd (not refl)
decided Greater p q not same = same

module _ {mine theirs label other behind beyond : List ℕ} {a b : Name} (left : AreLeft mine theirs a b) (split : AreSplit mine theirs label other behind beyond) where
  my_head : HasFirst left.my_labels split.my_len split.my_others
  my_head = my_first left split.my_len split.my_others split.my_first

  their_head : HasFirst left.their_labels split.their_len split.their_others
  their_head = their_first left split.their_len split.their_others split.their_first

  -- the first labels decide before the others
  step : ordering_then (label_order label other) (slice_cmp label_order my_head.behind their_head.behind) ≡ canonical_order a b
  step =
      (λ i. ordering_then (label_order ((split.label_is ∙ my_head.label_is) i) ((split.other_is ∙ their_head.label_is) i)) (slice_cmp label_order my_head.behind their_head.behind))
      ∙ (λ i. slice_cmp label_order (sym my_head.are i) (sym their_head.are i))
      ∙ left.as_names

  pub left_more : (o : Ordering) → o ≡ label_order label other → o ≡ Equal → AreLeft behind beyond a b
  left_more o order same = record {
    my_labels = my_head.behind;
    their_labels = their_head.behind;
    my_octets = split.behind_is ∙ my_head.behind_is;
    their_octets = split.beyond_is ∙ their_head.behind_is;
    as_names = ap (λ p. ordering_then p (slice_cmp label_order my_head.behind their_head.behind)) (sym same ∙ order) ∙ step;
  }

  pub first_decides : (o : Ordering) → o ≡ label_order label other → (o ≡ Equal → ⊥) → o ≡ canonical_order a b
  first_decides o order not =
      let rest = slice_cmp label_order my_head.behind their_head.behind in
      decided o rest (canonical_order a b) not (ap (λ p. ordering_then p rest) order ∙ step)
