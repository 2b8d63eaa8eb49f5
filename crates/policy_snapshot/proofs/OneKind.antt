-- The best hit among the rules of one kind in one zone: the first entry of the index that is hit.
use Rattle.std.proofs.Common.{◌≡◌, ℕ, Bool, true, false, ◌||◌, cond, Option, Some, None, List, [], ◌∷◌, map, ⊎_elim, refl, sym, ap, subst, ◌∙◌, true≢false}
use Rattle.std.specs.Cmp.{IsTotalOrder, tied_itself}
use Rattle.std.specs.List.{AllByRecursion, Contains, find, flat_map, list_any}
use Rattle.std.specs.List.Sorted.{IsStrictlySortedBy}
use Rattle.std.specs.Map.{keys_of}
use Rattle.std.specs.Option.{option_map}
use Rattle.std.specs.Ordering.{is_lt, ordering_reverse}
use Rattle.std.specs.Prelude.{filter}
use Rattle.std.specs.declared.cmp.Ordering.{Ordering}
use Rattle.std.specs.declared.cmp.Ordering.TheVariants.{Less}
use Rattle.dns_record.specs.Record.{PlainRecord}
use Rattle.dns_message.specs.declared.request.Query.{Query}
use Rattle.trigger_codec.specs.declared.trigger.Trigger.{Trigger}
use Rattle.action_codec.specs.declared.action.Action.{Action}
use Rattle.zone_index.specs.Listed.{with_triggers}
use Rattle.rpz_precedence.specs.Best.{PlainHit, IsBest}
use Rattle.rpz_precedence.specs.Rank.{PlainRank, precedes}
use Rattle.upstream_link.specs.Facts.{PlainFacts}
use Rattle.policy_snapshot.specs.Rules.{PlainRule}
use Rattle.policy_snapshot.specs.Hits.{is_hit, hit_at, hits}
use Rattle.policy_snapshot.specs.Lookup.{entry_hit, best_over}
use Rattle.policy_snapshot.proofs.Members.{none, here, there, cases, empty, from_map, to_map, from_filter, to_filter}
use Rattle.policy_snapshot.proofs.FlatLists.{from_flat, to_flat}
use Rattle.policy_snapshot.proofs.ListTests.{any_at}
use Rattle.policy_snapshot.proofs.RuleRanks.{rule_with}
use Rattle.policy_snapshot.proofs.BestHits.{RankLaws, best_of_all, best_of_same}

-- ---- the first entry that passes a test

module _ {K X : Type 0} {R : K → K → Ordering} (o : IsTotalOrder R) (P : K × X → Bool) where
  -- the entry passes, and no entry that passes has a key before its
  pub record IsFirst (es : List (K × X)) (e : K × X) : Type 0 where
    pub within : Contains es e
    pub passes : P e ≡ true
    pub first : (x : K × X) → Contains es x → P x ≡ true → is_lt (R x.0 e.0) ≡ false

  abbrev pub IsFirstOf : List (K × X) → Option (K × X) → Type 0
  IsFirstOf es None = (x : K × X) → Contains es x → P x ≡ false
  IsFirstOf es (Some e) = IsFirst es e

  above_is : (k : K) (es : List (K × X)) → AllByRecursion (λ y. R k y ≡ Less) (keys_of es) → (x : K × X) → Contains es x → R k x.0 ≡ Less
  above_is k [] h x at = absurd (none x at)
  above_is k (e ∷ es) h x at = ⊎_elim (λ s. ap (λ (y : K × X). R k y.0) (sym s) ∙ h.0) (λ t. above_is k es h.1 x t) (cases e es x at)

  not_before : (k l : K) → R k l ≡ Less → is_lt (R l k) ≡ false
  not_before k l h = ap is_lt (o.antisymm l k ∙ ap ordering_reverse h)

  longer : (e : K × X) (es : List (K × X)) (found : Option (K × X)) → P e ≡ false → IsFirstOf es found → IsFirstOf (e ∷ es) found
  longer e es None t h = λ x at. ⊎_elim (λ s. ap P (sym s) ∙ t) (λ r. h x r) (cases e es x at)
  longer e es (Some f) t h = record {
    within = there e es f h.within;
    passes = h.passes;
    first = λ x at hit. ⊎_elim (λ s. absurd (true≢false (sym hit ∙ ap P (sym s) ∙ t))) (λ r. h.first x r hit) (cases e es x at);
  }

  found_if : (b : Bool) (e : K × X) (es : List (K × X)) → P e ≡ b → AllByRecursion (λ y. R e.0 y ≡ Less) (keys_of es) → IsFirstOf es (find P es) → IsFirstOf (e ∷ es) (cond b (Some e) (find P es))
  found_if true e es t above others = record {
    within = here e es;
    passes = t;
    first = λ x at hit.
        ⊎_elim (λ same. ap (λ (y : K × X). is_lt (R y.0 e.0)) (sym same) ∙ ap is_lt (tied_itself o e.0)) (λ r. not_before e.0 x.0 (above_is e.0 es above x r)) (cases e es x at);
  }
  found_if false e es t above others = longer e es (find P es) t others

  pub find_first : (es : List (K × X)) → IsStrictlySortedBy R (keys_of es) → IsFirstOf es (find P es)
  unfolding IsStrictlySortedBy
  find_first [] s = λ x at. absurd (none x at)
  find_first (e ∷ es) s = found_if (P e) e es refl s.0 (find_first es s.1)

-- ---- a test that some element passes

-- an element that passes a test
pub record Passes {X : Type 0} (p : X → Bool) (xs : List X) : Type 0 where
  pub x : X
  pub within : Contains xs x
  pub passes : p x ≡ true

module _ {X : Type 0} (p : X → Bool) where
  any_if : (b : Bool) (x : X) (xs : List X) → p x ≡ b → (list_any p xs ≡ true → Passes p xs) → (b || list_any p xs) ≡ true → Passes p (x ∷ xs)
  any_if true x xs e others t = record { x = x; within = here x xs; passes = e }
  any_if false x xs e others t = let o = others t in record { x = o.x; within = there x xs o.x o.within; passes = o.passes }

  pub from_any : (xs : List X) → list_any p xs ≡ true → Passes p xs
  from_any [] t = absurd (true≢false (sym t))
  from_any (x ∷ xs) t = any_if (p x) x xs refl (from_any xs) t

-- ---- the hits of entries

-- the rules of the entries of one kind
abbrev pub kind_rules : {K : Type 0} → ℕ → PlainRecord → (K → Trigger) → List (K × Action) → List PlainRule
kind_rules number soa kind entries = map (rule_with number soa) (with_triggers kind entries)

-- the hits of the entries that pass a test
abbrev pub hits_by : {K : Type 0} → (K → Trigger) → ℕ → ℕ → PlainRecord → (K × Action → Bool) → List (K × Action) → List PlainHit
hits_by kind position number soa P es = map (entry_hit kind position number soa) (filter P es)

-- a hit is that of an entry
pub record IsEntryHit {K : Type 0} (kind : K → Trigger) (position number : ℕ) (soa : PlainRecord) (P : K × Action → Bool) (entries : List (K × Action)) (hit : PlainHit) : Type 0 where
  pub entry : K × Action
  pub within : Contains entries entry
  pub passes : P entry ≡ true
  pub is : entry_hit kind position number soa entry ≡ hit

module _ {K : Type 0} (kind : K → Trigger) (position number : ℕ) (soa : PlainRecord) where
  entry_by : (P : K × Action → Bool) (es : List (K × Action)) (hit : PlainHit) → Contains (hits_by kind position number soa P es) hit → IsEntryHit kind position number soa P es hit
  entry_by P es hit at =
      let m = from_map (entry_hit kind position number soa) (filter P es) hit at in
      let kept = from_filter P es m.x m.within in
      record { entry = m.x; within = kept.0; passes = kept.1; is = m.is }

  hit_by : (P : K × Action → Bool) (es : List (K × Action)) (e : K × Action) → Contains es e → P e ≡ true → Contains (hits_by kind position number soa P es) (entry_hit kind position number soa e)
  hit_by P es e at t = to_map (entry_hit kind position number soa) (filter P es) e (to_filter P es e at t)

  abbrev rank_of : K → PlainRank
  rank_of k = record { position = position; zone = number; trigger = kind k }

  -- of entries that pass, one that the order doesn't put before another doesn't precede it
  abbrev pub Agrees : (K → K → Ordering) → (K × Action → Bool) → Type 0
  Agrees R P = (a b : K × Action) → P a ≡ true → P b ≡ true → is_lt (R a.0 b.0) ≡ false → precedes (rank_of a.0) (rank_of b.0) ≡ false

  best_found : (R : K → K → Ordering) (o : IsTotalOrder R) (P : K × Action → Bool) (es : List (K × Action)) (found : Option (K × Action)) → Agrees R P → IsFirstOf o P es found
      → IsBest (hits_by kind position number soa P es) (option_map (entry_hit kind position number soa) found)
  best_found R o P es None order h = empty _ (λ hit at. let e = entry_by P es hit at in true≢false (sym e.passes ∙ h e.entry e.within))
  best_found R o P es (Some f) order h = (
    hit_by P es f h.within h.passes,
    λ other at.
        let e = entry_by P es other at in
        ap (λ (x : PlainHit). precedes x.rank (rank_of f.0)) (sym e.is) ∙ order e.entry f e.passes h.passes (h.first e.entry e.within e.passes),
  )

  -- the best of the hits of entries that pass is that of the first one
  pub best_by : (R : K → K → Ordering) (o : IsTotalOrder R) (P : K × Action → Bool) (es : List (K × Action)) → Agrees R P → IsStrictlySortedBy R (keys_of es)
      → IsBest (hits_by kind position number soa P es) (option_map (entry_hit kind position number soa) (find P es))
  best_by R o P es order s = best_found R o P es (find P es) order (find_first o P es s)

module _ {K : Type 0} (query : Query) (facts : PlainFacts) (position : ℕ) (name : List (List ℕ)) (number : ℕ) (soa : PlainRecord) (kind : K → Trigger) where
  abbrev tests : K × Action → Bool
  tests e = is_hit query facts position name (kind e.0)

  pub entry_of : (es : List (K × Action)) (hit : PlainHit) → Contains (hits (kind_rules number soa kind es) query facts position name) hit → IsEntryHit kind position number soa tests es hit
  entry_of es hit at =
      let rule = from_map (hit_at position) _ hit at in
      let kept = from_filter (λ (r : PlainRule). is_hit query facts position name r.trigger) (kind_rules number soa kind es) rule.x rule.within in
      let pair = from_map (rule_with number soa) (with_triggers kind es) rule.x kept.0 in
      let entry = from_map (λ (e : K × Action). (kind e.0, e.1)) es pair.x pair.within in
      record {
        entry = entry.x;
        within = entry.within;
        passes = ap (λ (p : Trigger × Action). is_hit query facts position name p.0) entry.is ∙ ap (λ (r : PlainRule). is_hit query facts position name r.trigger) pair.is ∙ kept.1;
        is = ap (λ (p : Trigger × Action). hit_at position (rule_with number soa p)) entry.is ∙ ap (hit_at position) pair.is ∙ rule.is;
      }

  hit_from : (es : List (K × Action)) (e : K × Action) → Contains es e → is_hit query facts position name (kind e.0) ≡ true → Contains (hits (kind_rules number soa kind es) query facts position name) (entry_hit kind position number soa e)
  hit_from es e at hit =
      let rule = rule_with number soa (kind e.0, e.1) in
      let rules = kind_rules number soa kind es in
      let within : Contains rules rule = to_map (rule_with number soa) (with_triggers kind es) (kind e.0, e.1) (to_map (λ (x : K × Action). (kind x.0, x.1)) es e at) in
      to_map (hit_at position) _ rule (to_filter (λ (r : PlainRule). is_hit query facts position name r.trigger) rules rule within hit)

  -- the best of the hits of one kind is that of the first entry that is hit
  pub best_of_kind : (R : K → K → Ordering) (o : IsTotalOrder R) (P : K × Action → Bool) (es : List (K × Action))
      → ((e : K × Action) → tests e ≡ P e) → Agrees kind position number soa R P
      → IsStrictlySortedBy R (keys_of es) → IsBest (hits (kind_rules number soa kind es) query facts position name) (option_map (entry_hit kind position number soa) (find P es))
  best_of_kind R o P es same order s =
      best_of_same (hits_by kind position number soa P es) _ _
      (λ hit at.
      let e = entry_by kind position number soa P es hit at in
      subst (λ (h : PlainHit). Contains (hits (kind_rules number soa kind es) query facts position name) h) e.is (hit_from es e.entry e.within (same e.entry ∙ e.passes)))
      (λ hit at.
      let e = entry_of es hit at in
      subst (λ (h : PlainHit). Contains (hits_by kind position number soa P es) h) e.is (hit_by kind position number soa P es e.entry e.within (sym (same e.entry) ∙ e.passes)))
      (best_by kind position number soa R o P es order s)

  -- where a rule is hit by one of several, the best of the hits is that which a loop over the look-ups of each finds
  pub best_over_kind : {X : Type 0} (ranks : RankLaws) (R : K → K → Ordering) (o : IsTotalOrder R) (P : X → K × Action → Bool) (es : List (K × Action)) (xs : List X)
      → ((e : K × Action) → tests e ≡ list_any (λ x. P x e) xs) → ((x : X) → Agrees kind position number soa R (P x))
      → IsStrictlySortedBy R (keys_of es) → IsBest (hits (kind_rules number soa kind es) query facts position name) (best_over (λ x. option_map (entry_hit kind position number soa) (find (P x) es)) xs)
  best_over_kind {X} ranks R o P es xs same order s =
      let each : X → List PlainHit = λ x. hits_by kind position number soa (P x) es in
      best_of_same (flat_map each xs) _ _
      (λ hit at.
      let g = from_flat each xs hit at in
      let e = entry_by kind position number soa (P g.x) es hit g.gives in
      subst (λ (h : PlainHit). Contains (hits (kind_rules number soa kind es) query facts position name) h) e.is
      (hit_from es e.entry e.within (same e.entry ∙ any_at (λ x. P x e.entry) xs g.x g.within e.passes)))
      (λ hit at.
      let e = entry_of es hit at in
      let a = from_any (λ x. P x e.entry) xs (sym (same e.entry) ∙ e.passes) in
      subst (λ (h : PlainHit). Contains (flat_map each xs) h) e.is
      (to_flat each xs a.x (entry_hit kind position number soa e.entry) a.within (hit_by kind position number soa (P a.x) es e.entry e.within a.passes)))
      (best_of_all ranks (λ x. option_map (entry_hit kind position number soa) (find (P x) es)) each (λ x. best_by kind position number soa R o (P x) es (order x) s) xs)

  -- the same where the several stand in lists, and the loop goes over these
  pub best_over_lists : {X : Type 0} (ranks : RankLaws) (R : K → K → Ordering) (o : IsTotalOrder R) (P : X → K × Action → Bool) (es : List (K × Action)) (lists : List (List X))
      → ((e : K × Action) → tests e ≡ list_any (λ x. P x e) (flat_map (λ xs. xs) lists)) → ((x : X) → Agrees kind position number soa R (P x))
      → IsStrictlySortedBy R (keys_of es) → IsBest (hits (kind_rules number soa kind es) query facts position name) (best_over (best_over (λ x. option_map (entry_hit kind position number soa) (find (P x) es))) lists)
  best_over_lists {X} ranks R o P es lists same order s =
      let look : X → Option PlainHit = λ x. option_map (entry_hit kind position number soa) (find (P x) es) in
      let each : X → List PlainHit = λ x. hits_by kind position number soa (P x) es in
      let in_list : List X → List PlainHit = λ xs. flat_map each xs in
      best_of_same (flat_map in_list lists) _ _
      (λ hit at.
      let l = from_flat in_list lists hit at in
      let g = from_flat each l.x hit l.gives in
      let e = entry_by kind position number soa (P g.x) es hit g.gives in
      subst (λ (h : PlainHit). Contains (hits (kind_rules number soa kind es) query facts position name) h) e.is
      (hit_from es e.entry e.within (same e.entry ∙ any_at (λ x. P x e.entry) (flat_map (λ xs. xs) lists) g.x (to_flat (λ xs. xs) lists l.x g.x l.within g.within) e.passes)))
      (λ hit at.
      let e = entry_of es hit at in
      let a = from_any (λ x. P x e.entry) (flat_map (λ xs. xs) lists) (sym (same e.entry) ∙ e.passes) in
      let l = from_flat (λ xs. xs) lists a.x a.within in
      subst (λ (h : PlainHit). Contains (flat_map in_list lists) h) e.is
      (to_flat in_list lists l.x (entry_hit kind position number soa e.entry) l.within
      (to_flat each l.x a.x (entry_hit kind position number soa e.entry) l.gives (hit_by kind position number soa (P a.x) es e.entry e.within a.passes))))
      (best_of_all ranks (best_over look) in_list (λ xs. best_of_all ranks look each (λ x. best_by kind position number soa R o (P x) es (order x) s) xs) lists)
