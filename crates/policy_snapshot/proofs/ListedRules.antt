-- What a summary of one kind knows once a zone is another: as it was, listed of all zones, listed anew, or edited trigger by trigger.
use Rattle.std.proofs.Common.{◌≡◌, ℕ, zero, suc, ◌+◌, ◌-◌, ◌≤◌, ◌<◌, ◌==◌, Bool, true, false, cond, ◌&&◌, ◌||◌, List, [], ◌∷◌, length, get_or, Option, Some, None, refl, sym, ap, subst, ◌∙◌, true≢false, arith}
use Rattle.std.specs.Prelude.{is_some, nat_le, not, slice_set}
use Rattle.std.specs.BTreeMap.{is_at}
use Rattle.std.specs.List.{AllByRecursion, list_any}
use Rattle.std.specs.Map.{lookup}
use Rattle.std.specs.Option.{option_map}
use Rattle.std.specs.declared.cmp.Ordering.{Ordering}
use Rattle.std.proofs.lemmas.Bool.{eqb-true}
use Rattle.std.proofs.lemmas.Bool.Decides.{nat_tests}
use Rattle.std.proofs.lemmas.Nat.Bits.{bit_at-zero}
use Rattle.summary_index.specs.Knowing.{Knows}
use Rattle.summary_index.specs.Summary.{PlainSummary, Standing, zones_at, zones_in}
use Rattle.summary_index.specs.Zones.{has_zone}
use Rattle.zone_rows.specs.declared.zone.PlainZone.{PlainZone}
use Rattle.policy_snapshot.specs.Policy.{PlainZones, zone_at}
use Rattle.policy_snapshot.proofs.NewZones.{new_is, number_within, some_there, stays}
use Rattle.zone_rows.specs.declared.zone.TheConstants.{ZONE_LIMIT}

-- ---- numbers and tests

le_yes : (n k : ℕ) → n ≤ k → nat_le n k ≡ true
le_yes n k le = grind (arith, nat_tests, le)

le_no : (n k : ℕ) → k < n → nat_le n k ≡ false
le_no n k lt = grind (arith, nat_tests, lt)

le_next : (n k : ℕ) → (n == (k + 1)) ≡ false → nat_le n (k + 1) ≡ nat_le n k
le_next n k e = grind (arith, nat_tests, e)

or_false : (a : Bool) → (a || false) ≡ a
or_false true = refl
or_false false = refl

-- a test that one more element passes, or an edit that one more trigger makes
edited_more : (a b c h x : Bool) → cond (a && c) h (cond (a && b) h x) ≡ cond (a && (b || c)) h x
edited_more true true true h x = refl
edited_more true true false h x = refl
edited_more true false true h x = refl
edited_more true false false h x = refl
edited_more false b c h x = refl

both_true : {X : Type 0} (a : Bool) (x y : X) → cond a x y ≡ cond (a && true) x y
both_true true x y = refl
both_true false x y = refl

both_false : {X : Type 0} (a : Bool) (x y : X) → y ≡ cond (a && false) x y
both_false true x y = refl
both_false false x y = refl

pub no_zone : (number : ℕ) → has_zone 0 number ≡ false
no_zone number = ap (λ (k : ℕ). k == 1) (bit_at-zero (number - 1))

-- where the zone of a number alone stands, if something is found
pub marked_at : {A : Type 0} (found : Option A) (zones number n : ℕ) → has_zone zones n ≡ (n == number || has_zone 0 n) → has_zone (zones_in (option_map (λ _. record { value = zones; mark = true }) found)) n ≡ (n == number && is_some found)
marked_at None zones number n e = no_zone n ∙ none_of (n == number)
  where
    none_of : (a : Bool) → false ≡ (a && false)
    none_of true = refl
    none_of false = refl
marked_at (Some a) zones number n e = e ∙ ap (λ (b : Bool). n == number || b) (no_zone n) ∙ one_of (n == number)
  where
    one_of : (a : Bool) → (a || false) ≡ (a && true)
    one_of true = refl
    one_of false = refl

-- where nothing stands
pub nothing_at : (number n : ℕ) (found : Bool) → found ≡ false → has_zone 0 n ≡ (n == number && found)
nothing_at number n found none = no_zone n ∙ none_of (n == number) found none
  where
    none_of : (a b : Bool) → b ≡ false → false ≡ (a && b)
    none_of true b e = sym e
    none_of false b e = refl

module _ {X : Type 0} where
  none_is : (xs : List X) → list_any (λ _. true) xs ≡ false → xs ≡ []
  none_is [] e = refl
  none_is (x ∷ xs) e = absurd (true≢false e)

-- what holds of all elements holds of one
pub one_of : {X : Type 0} (P : X → Type 0) (xs : List X) (k : ℕ) (x : X) → AllByRecursion P xs → k < length xs → x ≡ get_or xs k x → P x
one_of P [] k x all lt is = absurd (omega (arith, lt))
one_of P (y ∷ ys) zero x all lt is = subst P (sym is) all.0
one_of P (y ∷ ys) (suc k) x all lt is = one_of P ys k x all.1 (omega (arith, lt)) is

-- ---- one trigger

module _ {K : Type 0} (order : K → K → Ordering) (valid : K → Type 0) (same : (a b : K) → valid a → valid b → is_at (order a) b ≡ true → a ≡ b) where
  here_by : (b : Bool) (q : K) → valid q → (number : ℕ) (has : Bool) (rule : K → Bool) (before after : List (K × Standing)) → has ≡ rule q
      → ((n : ℕ) → 1 ≤ n → n ≤ ZONE_LIMIT → has_zone (zones_at order q after) n ≡ cond (n == number) has (has_zone (zones_at order q before) n))
      → ((p : K) → is_at (order p) q ≡ false → zones_at order p after ≡ zones_at order p before)
      → (p : K) → valid p → (n : ℕ) → 1 ≤ n → n ≤ ZONE_LIMIT → is_at (order p) q ≡ b
      → has_zone (zones_at order p after) n ≡ cond (n == number && b) (rule p) (has_zone (zones_at order p before) n)
  here_by true q is number has rule before after has_is here elsewhere p valid_p n some within at =
      let e : p ≡ q = same p q valid_p is at in
      ap (λ (k : K). has_zone (zones_at order k after) n) e
      ∙ here n some within
      ∙ ap (λ (b : Bool). cond (n == number) b (has_zone (zones_at order q before) n)) has_is
      ∙ both_true (n == number) (rule q) (has_zone (zones_at order q before) n)
      ∙ ap (λ (k : K). cond (n == number && true) (rule k) (has_zone (zones_at order k before) n)) (sym e)
  here_by false q is number has rule before after has_is here elsewhere p valid_p n some within at =
      ap (λ (zones : ℕ). has_zone zones n) (elsewhere p at) ∙ both_false (n == number) (rule p) (has_zone (zones_at order p before) n)

  -- what stands once the zone of a number has a rule at a key, or has none, as it does there
  pub edited_here : (q : K) → valid q → (number : ℕ) (has : Bool) (rule : K → Bool) (before after : List (K × Standing)) → has ≡ rule q
      → ((n : ℕ) → 1 ≤ n → n ≤ ZONE_LIMIT → has_zone (zones_at order q after) n ≡ cond (n == number) has (has_zone (zones_at order q before) n))
      → ((p : K) → is_at (order p) q ≡ false → zones_at order p after ≡ zones_at order p before)
      → (p : K) → valid p → (n : ℕ) → 1 ≤ n → n ≤ ZONE_LIMIT
      → has_zone (zones_at order p after) n ≡ cond (n == number && is_at (order p) q) (rule p) (has_zone (zones_at order p before) n)
  edited_here q is number has rule before after has_is here elsewhere p valid_p n some within =
      here_by (is_at (order p) q) q is number has rule before after has_is here elsewhere p valid_p n some within refl

-- ---- one kind, whose rules in a zone are these

module _ {K A : Type 0} (order : K → K → Ordering) (valid : K → Type 0) (rules : PlainZone → List (K × A)) where
  -- the zone has a rule at the key
  abbrev pub has_at : PlainZone → K → Bool
  has_at zone key = is_some (lookup (is_at (order key)) (rules zone))

  -- the zone has rules
  abbrev pub has_some : PlainZone → Bool
  has_some zone = list_any (λ _. true) (rules zone)

  -- the summary knows the rules of each zone of the policy, whose number is from 1 to 64
  abbrev pub KnowsEach : PlainZones → PlainSummary K → Type 0
  KnowsEach zones s = (n : ℕ) (zone : PlainZone) → 1 ≤ n → n ≤ ZONE_LIMIT → zone_at zones n ≡ Some zone → Knows order valid n (rules zone) s

  -- these zones of the policy have rules
  abbrev pub HaveSome : PlainZones → ℕ → Type 0
  HaveSome zones having = (n : ℕ) (zone : PlainZone) → 1 ≤ n → n ≤ ZONE_LIMIT → zone_at zones n ≡ Some zone → has_zone having n ≡ has_some zone

  -- at each key stand, by number, the zones of the policy that have a rule there
  abbrev pub StandEach : PlainZones → (K → ℕ → Bool) → Type 0
  StandEach zones at = (key : K) → valid key → (n : ℕ) (zone : PlainZone) → 1 ≤ n → n ≤ ZONE_LIMIT → zone_at zones n ≡ Some zone → at key n ≡ has_at zone key

  none_at : (zone : PlainZone) (key : K) → has_some zone ≡ false → has_at zone key ≡ false
  none_at zone key none = ap (λ (l : List (K × A)). is_some (lookup (is_at (order key)) l)) (none_is (rules zone) none)

  -- a kind that isn't listed
  pub known_unlisted : (zones : PlainZones) (s : PlainSummary K) → HaveSome zones s.having → s.is_listed ≡ false → KnowsEach zones s
  known_unlisted zones s have unlisted n zone some within e = record {
    having = have n zone some within e;
    exact = λ listed. absurd (true≢false (sym listed ∙ unlisted));
  }

  -- a kind that is listed
  pub known_listed : (zones : PlainZones) (s : PlainSummary K) → HaveSome zones s.having → StandEach zones (λ key n. has_zone (zones_at order key s.triggers) n) → KnowsEach zones s
  known_listed zones s have stand n zone some within e = record {
    having = have n zone some within e;
    exact = λ listed key is. stand key is n zone some within e;
  }

  -- ---- a zone is another

  module _ (zones : PlainZones) (number : ℕ) (new : PlainZone) (low : 1 ≤ number) (there : number ≤ length zones) where
    abbrev after : PlainZones
    after = slice_set zones (number - 1) new

    known_by : (b : Bool) (s : PlainSummary K) → Knows order valid number (rules new) s → KnowsEach zones s
        → (n : ℕ) (zone : PlainZone) → (n == number) ≡ b → 1 ≤ n → n ≤ ZONE_LIMIT → zone_at after n ≡ Some zone → Knows order valid n (rules zone) s
    known_by true s here others n zone at some within e =
        subst (λ (m : ℕ). Knows order valid m (rules zone) s) (sym (eqb-true n number at))
        (subst (λ (z : PlainZone). Knows order valid number (rules z) s) (new_is zones number n new low some zone at e) here)
    known_by false s here others n zone at some within e = others n zone some within (sym (stays zones number n new low some at) ∙ e)

    -- where the zone has no rules and had none, all is known as it was
    pub known_as_before : (s : PlainSummary K) → number ≤ ZONE_LIMIT → KnowsEach zones s → has_zone s.having number ≡ false → has_some new ≡ false → KnowsEach after s
    known_as_before s limit knows had has n zone some within e =
        let old = some_there zones number low there in
        let known = knows number old.0 low limit old.1 in
        let same : rules old.0 ≡ rules new = none_is (rules old.0) (sym known.having ∙ had) ∙ sym (none_is (rules new) has) in
        known_by (n == number) s (subst (λ (l : List (K × A)). Knows order valid number l s) same known) knows n zone refl some within e

    have_by : (b : Bool) (having : ℕ) (has : Bool) (s : PlainSummary K) → KnowsEach zones s → has ≡ has_some new
        → (n : ℕ) (zone : PlainZone) → (n == number) ≡ b → has_zone having n ≡ cond b has (has_zone s.having n) → 1 ≤ n → n ≤ ZONE_LIMIT → zone_at after n ≡ Some zone → has_zone having n ≡ has_some zone
    have_by true having has s knows is n zone at w some within e = w ∙ is ∙ ap has_some (new_is zones number n new low some zone at e)
    have_by false having has s knows is n zone at w some within e = w ∙ (knows n zone some within (sym (stays zones number n new low some at) ∙ e)).having

    -- the zones that have rules then
    pub have_after : (having : ℕ) (has : Bool) (s : PlainSummary K) → KnowsEach zones s → has ≡ has_some new
        → ((n : ℕ) → 1 ≤ n → n ≤ ZONE_LIMIT → has_zone having n ≡ cond (n == number) has (has_zone s.having n)) → HaveSome after having
    have_after having has s knows is with n zone some within e = have_by (n == number) having has s knows is n zone refl (with n some within) some within e

    relisted_by : (b : Bool) (at : K → ℕ → Bool) (s : PlainSummary K) → KnowsEach zones s → s.is_listed ≡ true
        → (key : K) → valid key → (n : ℕ) (zone : PlainZone) → (n == number) ≡ b → at key n ≡ ((not b && has_zone (zones_at order key s.triggers) n) || (b && has_at new key))
        → 1 ≤ n → n ≤ ZONE_LIMIT → zone_at after n ≡ Some zone → at key n ≡ has_at zone key
    relisted_by true at s knows listed key is n zone here w some within e = w ∙ ap (λ (z : PlainZone). has_at z key) (new_is zones number n new low some zone here e)
    relisted_by false at s knows listed key is n zone here w some within e =
        w ∙ or_false (has_zone (zones_at order key s.triggers) n) ∙ (knows n zone some within (sym (stays zones number n new low some here) ∙ e)).exact listed key is

    -- what stands of the others, and the rules of the zone
    pub stand_relisted : (at : K → ℕ → Bool) (s : PlainSummary K) → KnowsEach zones s → s.is_listed ≡ true
        → ((key : K) → valid key → (n : ℕ) → 1 ≤ n → n ≤ ZONE_LIMIT → at key n ≡ ((not (n == number) && has_zone (zones_at order key s.triggers) n) || (n == number && has_at new key)))
        → StandEach after at
    stand_relisted at s knows listed merged key is n zone some within e = relisted_by (n == number) at s knows listed key is n zone refl (merged key is n some within) some within e

  -- ---- all zones, one by one

  -- At each key stand those of the first so many zones that have a rule there.
  pub record ListedTo (zones : PlainZones) (k : ℕ) (at : K → ℕ → Bool) : Type 0 where
    pub each : (key : K) → valid key → (n : ℕ) (zone : PlainZone) → 1 ≤ n → n ≤ ZONE_LIMIT → zone_at zones n ≡ Some zone → at key n ≡ (nat_le n k && has_at zone key)

  pub listed_none : (zones : PlainZones) (at : K → ℕ → Bool) → ((key : K) (n : ℕ) → at key n ≡ false) → ListedTo zones 0 at
  listed_none zones at none = record { each = λ key is n zone some within e. none key n ∙ ap (λ (b : Bool). b && has_at zone key) (sym (le_no n 0 some)) }

  more_by : (b : Bool) (zones : PlainZones) (k : ℕ) (new : PlainZone) (at after : Bool) (key : K) (n : ℕ) (zone : PlainZone) → zone_at zones (k + 1) ≡ Some new → zone_at zones n ≡ Some zone
      → (n == (k + 1)) ≡ b → at ≡ (nat_le n k && has_at zone key) → after ≡ (at || (b && has_at new key)) → after ≡ (nat_le n (k + 1) && has_at zone key)
  more_by true zones k new at after key n zone there e here before w =
      let same : n ≡ k + 1 = eqb-true n (k + 1) here in
      let is : new ≡ zone = cc (sym there ∙ ap (zone_at zones) (sym same) ∙ e) in
      w
      ∙ ap (λ (b : Bool). b || has_at new key) (before ∙ ap (λ (b : Bool). b && has_at zone key) (le_no n k (omega (arith, same))))
      ∙ ap (λ (z : PlainZone). has_at z key) is
      ∙ ap (λ (b : Bool). b && has_at zone key) (sym (le_yes n (k + 1) (omega (arith, same))))
  more_by false zones k new at after key n zone there e here before w =
      w ∙ or_false at ∙ before ∙ ap (λ (b : Bool). b && has_at zone key) (sym (le_next n k here))

  -- and those of the next zone
  pub listed_more : (zones : PlainZones) (k : ℕ) (new : PlainZone) (at after : K → ℕ → Bool) → zone_at zones (k + 1) ≡ Some new → ListedTo zones k at
      → ((key : K) → valid key → (n : ℕ) → 1 ≤ n → n ≤ ZONE_LIMIT → after key n ≡ (at key n || (n == (k + 1) && has_at new key))) → ListedTo zones (k + 1) after
  listed_more zones k new at after there before merged = record {
    each = λ key is n zone some within e. more_by (n == (k + 1)) zones k new (at key n) (after key n) key n zone there e refl (before.each key is n zone some within e) (merged key is n some within);
  }

  or_none : (a b c : Bool) → c ≡ false → a ≡ (a || (b && c))
  or_none true b c none = refl
  or_none false true c none = sym none
  or_none false false c none = refl

  -- the next zone has none
  pub listed_past : (zones : PlainZones) (k : ℕ) (new : PlainZone) (at : K → ℕ → Bool) → zone_at zones (k + 1) ≡ Some new → has_some new ≡ false → ListedTo zones k at → ListedTo zones (k + 1) at
  listed_past zones k new at there none before =
      listed_more zones k new at at there before (λ key is n some within. or_none (at key n) (n == (k + 1)) (has_at new key) (none_at new key none))

  -- all zones
  pub listed_all : (zones : PlainZones) (k : ℕ) (at : K → ℕ → Bool) → length zones ≤ k → ListedTo zones k at → StandEach zones at
  listed_all zones k at all listed key is n zone some within e =
      let last : n ≤ length zones = number_within zones n zone some e in
      listed.each key is n zone some within e ∙ ap (λ (b : Bool). b && has_at zone key) (le_yes n k (omega (arith, last, all)))

  -- ---- trigger by trigger

  module _ {T : Type 0} (same : K → T → Bool) (number : ℕ) (new : PlainZone) where
    -- At the keys of these triggers the zone stands as it has rules now; all else is as before.
    pub record EditedTo (before at : K → ℕ → Bool) (done : List T) : Type 0 where
      pub each : (key : K) → valid key → (n : ℕ) → 1 ≤ n → n ≤ ZONE_LIMIT → at key n ≡ cond (n == number && list_any (same key) done) (has_at new key) (before key n)

    none_edited : (a h x : Bool) → x ≡ cond (a && false) h x
    none_edited true h x = refl
    none_edited false h x = refl

    pub edited_none : (before at : K → ℕ → Bool) → ((key : K) (n : ℕ) → at key n ≡ before key n) → EditedTo before at []
    edited_none before at equal = record { each = λ key is n some within. equal key n ∙ none_edited (n == number) (has_at new key) (before key n) }

    -- one trigger more
    pub edited_next : (before at next : K → ℕ → Bool) (done more : List T) (t : T) → ((key : K) → list_any (same key) more ≡ (list_any (same key) done || same key t)) → EditedTo before at done
        → ((key : K) → valid key → (n : ℕ) → 1 ≤ n → n ≤ ZONE_LIMIT → next key n ≡ cond (n == number && same key t) (has_at new key) (at key n)) → EditedTo before next more
    edited_next before at next done more t one edited w = record {
      each = λ key is n some within.
          w key is n some within
          ∙ ap (λ (x : Bool). cond (n == number && same key t) (has_at new key) x) (edited.each key is n some within)
          ∙ edited_more (n == number) (list_any (same key) done) (same key t) (has_at new key) (before key n)
          ∙ ap (λ (b : Bool). cond (n == number && b) (has_at new key) (before key n)) (sym (one key));
    }

    -- at other keys the zone has the rules that it had
    abbrev pub AreKept : PlainZones → List T → Type 0
    AreKept zones all = (old : PlainZone) → zone_at zones number ≡ Some old → (key : K) → valid key → list_any (same key) all ≡ false → has_at new key ≡ has_at old key

    edited_by : (b d : Bool) (zones : PlainZones) (low : 1 ≤ number) (there : number ≤ length zones) (limit : number ≤ ZONE_LIMIT) (at : K → ℕ → Bool) (s : PlainSummary K) (all : List T) → KnowsEach zones s → s.is_listed ≡ true → AreKept zones all
        → (key : K) → valid key → (n : ℕ) (zone : PlainZone) → (n == number) ≡ b → list_any (same key) all ≡ d → at key n ≡ cond (b && d) (has_at new key) (has_zone (zones_at order key s.triggers) n)
        → 1 ≤ n → n ≤ ZONE_LIMIT → zone_at (slice_set zones (number - 1) new) n ≡ Some zone → at key n ≡ has_at zone key
    edited_by true true zones low there limit at s all knows listed kept key is n zone here any w some within e = w ∙ ap (λ (z : PlainZone). has_at z key) (new_is zones number n new low some zone here e)
    edited_by true false zones low there limit at s all knows listed kept key is n zone here any w some within e =
        let old = some_there zones number low there in
        w
        ∙ ap (has_zone (zones_at order key s.triggers)) (eqb-true n number here)
        ∙ (knows number old.0 low limit old.1).exact listed key is
        ∙ sym (kept old.0 old.1 key is any)
        ∙ ap (λ (z : PlainZone). has_at z key) (new_is zones number n new low some zone here e)
    edited_by false d zones low there limit at s all knows listed kept key is n zone here any w some within e =
        w ∙ (knows n zone some within (sym (stays zones number n new low some here) ∙ e)).exact listed key is

    -- what stands once all are edited
    pub stand_edited : (zones : PlainZones) → 1 ≤ number → number ≤ length zones → number ≤ ZONE_LIMIT → (at : K → ℕ → Bool) (s : PlainSummary K) (all : List T) → KnowsEach zones s → s.is_listed ≡ true → AreKept zones all
        → EditedTo (λ key n. has_zone (zones_at order key s.triggers) n) at all → StandEach (slice_set zones (number - 1) new) at
    stand_edited zones low there limit at s all knows listed kept edited key is n zone some within e =
        edited_by (n == number) (list_any (same key) all) zones low there limit at s all knows listed kept key is n zone refl refl (edited.each key is n some within) some within e
