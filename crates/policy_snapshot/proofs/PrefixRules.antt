-- The rules of a kind of prefixes in a zone, as look-ups, triggers and summaries tell them.
use Rattle.std.proofs.Common.{◌≡◌, ℕ, ◌+◌, ◌-◌, ◌<◌, ◌≤◌, ◌==◌, Bool, true, false, cond, ◌&&◌, List, [], length, take, get_or, ◌||◌, not, Option, Some, None, Result, Ok, Err, refl, sym, ap, subst, ◌∙◌, true≢false, arith}
use Rattle.std.specs.Prelude.{IfOk, is_some}
use Rattle.std.specs.BTreeMap.{is_at}
use Rattle.std.specs.List.{list_any}
use Rattle.std.specs.List.Sorted.{IsStrictlySortedBy}
use Rattle.std.specs.Map.{keys_of, lookup}
use Rattle.std.specs.Arc.{arc_value}
use Rattle.std.proofs.lemmas.List.{length-map, length-set, take_all}
use Rattle.std.proofs.lemmas.List.Folds.{list_any_more}
use Rattle.action_codec.specs.declared.action.Action.{Action}
use Rattle.dns_name.specs.Labels.{Name}
use Rattle.ip_prefix.specs.Prefix.{PlainPrefix, prefix_order}
use Rattle.summary_index.specs.Summary.{PlainSummary, Standing, zones_at}
use Rattle.summary_index.specs.Zones.{has_zone}
use Rattle.trigger_codec.specs.Bases.{IsTrigger}
use Rattle.trigger_codec.specs.declared.trigger.Kind.{Kind}
use Rattle.trigger_codec.specs.declared.trigger.Kind.TheVariants as kinds
use Rattle.trigger_codec.specs.declared.trigger.Trigger.{Trigger}
use Rattle.trigger_codec.specs.declared.trigger.Trigger.TheVariants.{ClientIp, Qname, ResponseIp, NsDname, NsIp}
use Rattle.zone_index.specs.ActingEntries.{prefix_rules}
use Rattle.zone_index.specs.Indexed.{content_rule}
use Rattle.zone_index.specs.Listed.{is_same}
use Rattle.zone_index.specs.Rules.{rules_of}
use Rattle.zone_rows.specs.declared.zone.Content.{Content}
use Rattle.zone_rows.specs.declared.zone.PlainZone.{PlainZone}
use Rattle.policy_snapshot.specs.Listing.{AreSameElsewhere, IsThere, KnowsPrefixes, ZonesHave, has_prefix, is_of_patterns, prefix_of_kind, prefix_trigger, zones_after, zones_before}
use Rattle.policy_snapshot.specs.Lookup.{has_kind_in}
use Rattle.policy_snapshot.specs.Policy.{PlainZones, zone_at}
use Rattle.policy_snapshot.specs.Summed.{AnyPrefix, content_entries}
use Rattle.policy_snapshot.specs.declared.new_zone.NewZone.{NewZone}
use Rattle.policy_snapshot.proofs.KnownZones.{some_any}
use Rattle.policy_snapshot.proofs.ListedRules.{EditedTo, HaveSome, ListedTo, StandEach, edited_here, edited_next, edited_none, have_after, known_as_before, known_listed, known_unlisted, listed_all, listed_more, listed_none, listed_past, no_zone, stand_edited, stand_relisted}
use Rattle.policy_snapshot.proofs.NewZones.{some_there}
use Rattle.policy_snapshot.proofs.PatternRules.{TriggerLaws}
use Rattle.zone_rows.specs.declared.zone.TheConstants.{ZONE_LIMIT}

-- the rules of the kind in a zone
abbrev pub rules_in : Kind → PlainZone → List (PlainPrefix × Action)
rules_in kind zone = prefix_rules (content_entries zone.origin zone.content) kind

some_by : (kind : Kind) (origin : Name) (content : Option Content) → is_of_patterns kind ≡ false → has_kind_in kind origin content ≡ list_any (λ _. true) (prefix_rules (content_entries origin content) kind)
some_by kinds.ClientIp origin None of = refl
some_by kinds.ClientIp origin (Some content) of = some_any (rules_of origin content.rows).client_ip
some_by kinds.Qname origin content of = absurd (true≢false of)
some_by kinds.ResponseIp origin None of = refl
some_by kinds.ResponseIp origin (Some content) of = some_any (rules_of origin content.rows).response_ip
some_by kinds.NsDname origin content of = absurd (true≢false of)
some_by kinds.NsIp origin None of = refl
some_by kinds.NsIp origin (Some content) of = some_any (rules_of origin content.rows).nsip

-- whether the zone has rules of the kind
pub some_of : (kind : Kind) (zone : PlainZone) → is_of_patterns kind ≡ false → has_kind_in kind zone.origin zone.content ≡ list_any (λ _. true) (rules_in kind zone)
some_of kind zone of = some_by kind zone.origin zone.content of

same_prefix : TriggerLaws → (a b : PlainPrefix) → AnyPrefix a → AnyPrefix b → is_at (prefix_order a) b ≡ true → a ≡ b
same_prefix laws a b is other at = prefix_is a b ((laws.same (ClientIp a) (ClientIp b) tt tt).0 at)
  where
    prefix_is : (a b : PlainPrefix) → ClientIp a ≡ ClientIp b → a ≡ b
    prefix_is a b e = cc e

-- ---- the trigger of a prefix

-- it is a trigger
trigger_is : (kind : Kind) (p : PlainPrefix) → is_of_patterns kind ≡ false → IsTrigger (prefix_trigger kind p)
trigger_is kinds.ClientIp p of = tt
trigger_is kinds.Qname p of = absurd (true≢false of)
trigger_is kinds.ResponseIp p of = tt
trigger_is kinds.NsDname p of = absurd (true≢false of)
trigger_is kinds.NsIp p of = tt

rule_by : TriggerLaws → (kind : Kind) (origin : Name) (content : Option Content) (p : PlainPrefix) → is_of_patterns kind ≡ false
    → lookup (is_at (prefix_order p)) (prefix_rules (content_entries origin content) kind) ≡ content_rule origin content (prefix_trigger kind p)
rule_by laws kinds.ClientIp origin None p of = refl
rule_by laws kinds.ClientIp origin (Some content) p of = laws.at origin content.rows (ClientIp p)
rule_by laws kinds.Qname origin content p of = absurd (true≢false of)
rule_by laws kinds.ResponseIp origin None p of = refl
rule_by laws kinds.ResponseIp origin (Some content) p of = laws.at origin content.rows (ResponseIp p)
rule_by laws kinds.NsDname origin content p of = absurd (true≢false of)
rule_by laws kinds.NsIp origin None p of = refl
rule_by laws kinds.NsIp origin (Some content) p of = laws.at origin content.rows (NsIp p)

-- whether the zone has a rule at the prefix
rule_of : TriggerLaws → (kind : Kind) (zone : PlainZone) (p : PlainPrefix) → is_of_patterns kind ≡ false → has_prefix kind zone p ≡ is_some (content_rule zone.origin zone.content (prefix_trigger kind p))
rule_of laws kind zone p of = ap is_some (rule_by laws kind zone.origin zone.content p of)

-- a trigger without a prefix of the kind is that of no prefix
other_trigger : (kind : Kind) (t : Trigger) (p : PlainPrefix) → is_of_patterns kind ≡ false → None ≡ prefix_of_kind kind t → is_same (prefix_trigger kind p) t ≡ false
other_trigger kinds.ClientIp (ClientIp q) p of e = absurd cc
other_trigger kinds.ClientIp (Qname q) p of e = refl
other_trigger kinds.ClientIp (ResponseIp q) p of e = refl
other_trigger kinds.ClientIp (NsDname q) p of e = refl
other_trigger kinds.ClientIp (NsIp q) p of e = refl
other_trigger kinds.Qname t p of e = absurd (true≢false of)
other_trigger kinds.ResponseIp (ClientIp q) p of e = refl
other_trigger kinds.ResponseIp (Qname q) p of e = refl
other_trigger kinds.ResponseIp (ResponseIp q) p of e = absurd cc
other_trigger kinds.ResponseIp (NsDname q) p of e = refl
other_trigger kinds.ResponseIp (NsIp q) p of e = refl
other_trigger kinds.NsDname t p of e = absurd (true≢false of)
other_trigger kinds.NsIp (ClientIp q) p of e = refl
other_trigger kinds.NsIp (Qname q) p of e = refl
other_trigger kinds.NsIp (ResponseIp q) p of e = refl
other_trigger kinds.NsIp (NsDname q) p of e = refl
other_trigger kinds.NsIp (NsIp q) p of e = absurd cc

-- The trigger is that of the prefix.
record IsOf (kind : Kind) (t : Trigger) (q : PlainPrefix) : Type 0 where
  is : t ≡ prefix_trigger kind q
  same : (p : PlainPrefix) → is_same (prefix_trigger kind p) t ≡ is_at (prefix_order p) q

some_prefix : (a b : PlainPrefix) → Some a ≡ Some b → b ≡ a
some_prefix a b e = cc e

trigger_of : (kind : Kind) (t : Trigger) (q : PlainPrefix) → is_of_patterns kind ≡ false → Some q ≡ prefix_of_kind kind t → IsOf kind t q
trigger_of kinds.ClientIp (ClientIp p) q of e = let same : p ≡ q = some_prefix q p e in record { is = ap ClientIp same; same = λ x. ap (is_at (prefix_order x)) same }
trigger_of kinds.ClientIp (Qname p) q of e = absurd cc
trigger_of kinds.ClientIp (ResponseIp p) q of e = absurd cc
trigger_of kinds.ClientIp (NsDname p) q of e = absurd cc
trigger_of kinds.ClientIp (NsIp p) q of e = absurd cc
trigger_of kinds.Qname t q of e = absurd (true≢false of)
trigger_of kinds.ResponseIp (ClientIp p) q of e = absurd cc
trigger_of kinds.ResponseIp (Qname p) q of e = absurd cc
trigger_of kinds.ResponseIp (ResponseIp p) q of e = let same : p ≡ q = some_prefix q p e in record { is = ap ResponseIp same; same = λ x. ap (is_at (prefix_order x)) same }
trigger_of kinds.ResponseIp (NsDname p) q of e = absurd cc
trigger_of kinds.ResponseIp (NsIp p) q of e = absurd cc
trigger_of kinds.NsDname t q of e = absurd (true≢false of)
trigger_of kinds.NsIp (ClientIp p) q of e = absurd cc
trigger_of kinds.NsIp (Qname p) q of e = absurd cc
trigger_of kinds.NsIp (ResponseIp p) q of e = absurd cc
trigger_of kinds.NsIp (NsDname p) q of e = absurd cc
trigger_of kinds.NsIp (NsIp p) q of e = let same : p ≡ q = some_prefix q p e in record { is = ap NsIp same; same = λ x. ap (is_at (prefix_order x)) same }

-- ---- edits

-- what stands where the trigger has no prefix of the kind
pub edited_not : (kind : Kind) (t : Trigger) (p : PlainPrefix) (number n : ℕ) (has before : Bool) → is_of_patterns kind ≡ false → None ≡ prefix_of_kind kind t
    → before ≡ cond (n == number && is_same (prefix_trigger kind p) t) has before
edited_not kind t p number n has before of e =
    none_of (n == number) has before ∙ ap (λ (b : Bool). cond (n == number && b) has before) (sym (other_trigger kind t p of e))
  where
    none_of : (a x y : Bool) → y ≡ cond (a && false) x y
    none_of true x y = refl
    none_of false x y = refl

-- and where it has one
pub edited_of : TriggerLaws → (kind : Kind) (t : Trigger) (q : PlainPrefix) (zone : PlainZone) (number : ℕ) (has : Bool) (before after : List (PlainPrefix × Standing))
    → is_of_patterns kind ≡ false → Some q ≡ prefix_of_kind kind t → has ≡ is_some (content_rule zone.origin zone.content t)
    → ((n : ℕ) → 1 ≤ n → n ≤ ZONE_LIMIT → has_zone (zones_at prefix_order q after) n ≡ cond (n == number) has (has_zone (zones_at prefix_order q before) n))
    → ((p : PlainPrefix) → is_at (prefix_order p) q ≡ false → zones_at prefix_order p after ≡ zones_at prefix_order p before)
    → (p : PlainPrefix) (n : ℕ) → 1 ≤ n → n ≤ ZONE_LIMIT
    → has_zone (zones_at prefix_order p after) n ≡ cond (n == number && is_same (prefix_trigger kind p) t) (has_prefix kind zone p) (has_zone (zones_at prefix_order p before) n)
edited_of laws kind t q zone number has before after of e has_is here elsewhere p n some within =
    let at = trigger_of kind t q of e in
    let rule : has ≡ has_prefix kind zone q =
    has_is ∙ ap (λ (u : Trigger). is_some (content_rule zone.origin zone.content u)) at.is ∙ sym (rule_of laws kind zone q of) in
    edited_here prefix_order AnyPrefix (same_prefix laws) q tt number has (has_prefix kind zone) before after rule here elsewhere p tt n some within
    ∙ ap (λ (b : Bool). cond (n == number && b) (has_prefix kind zone p) (has_zone (zones_at prefix_order p before) n)) (sym (at.same p))

pub edited_if : {E : Type 0} → TriggerLaws → (kind : Kind) (t : Trigger) (q : PlainPrefix) (zone : PlainZone) (number : ℕ) (has : Bool) (before : PlainSummary PlainPrefix) (r : Result (PlainSummary PlainPrefix) E)
    → is_of_patterns kind ≡ false → Some q ≡ prefix_of_kind kind t → has ≡ is_some (content_rule zone.origin zone.content t)
    → IfOk r (λ after. (n : ℕ) → 1 ≤ n → n ≤ ZONE_LIMIT → has_zone (zones_at prefix_order q after.triggers) n ≡ cond (n == number) has (has_zone (zones_at prefix_order q before.triggers) n))
    → IfOk r (λ after. (p : PlainPrefix) → is_at (prefix_order p) q ≡ false → zones_at prefix_order p after.triggers ≡ zones_at prefix_order p before.triggers)
    → IfOk r (λ after. (p : PlainPrefix) (n : ℕ) → 1 ≤ n → n ≤ ZONE_LIMIT
    → has_zone (zones_at prefix_order p after.triggers) n ≡ cond (n == number && is_same (prefix_trigger kind p) t) (has_prefix kind zone p) (has_zone (zones_at prefix_order p before.triggers) n))
edited_if laws kind t q zone number has before (Ok after) of e has_is here elsewhere = edited_of laws kind t q zone number has before.triggers after.triggers of e has_is here elsewhere
edited_if laws kind t q zone number has before (Err x) of e has_is here elsewhere = tt

-- the rules at other prefixes are those of before
pub kept_of : TriggerLaws → (kind : Kind) (next : NewZone) (triggers : List Trigger) → is_of_patterns kind ≡ false → AreSameElsewhere next triggers
    → (old : PlainZone) → zone_at (zones_before next) next.number ≡ Some old → (p : PlainPrefix) → AnyPrefix p → list_any (is_same (prefix_trigger kind p)) triggers ≡ false
    → has_prefix kind next.zone.now p ≡ has_prefix kind old p
kept_of laws kind next triggers of others old e p is none =
    rule_of laws kind next.zone.now p of
    ∙ ap is_some (others.each old e (prefix_trigger kind p) (trigger_is kind p of) none)
    ∙ sym (rule_of laws kind old p of)

-- ---- all zones

sorted_none : IsStrictlySortedBy prefix_order []
unfolding IsStrictlySortedBy
sorted_none = tt

-- no entries are in order
pub none_sorted : (es : List (PlainPrefix × Standing)) → es ≡ [] → IsStrictlySortedBy prefix_order (keys_of es)
none_sorted es e = subst (λ (l : List (PlainPrefix × Standing)). IsStrictlySortedBy prefix_order (keys_of l)) (sym e) sorted_none

-- Entries in order that say which of the first so many zones, up to that of a number, have a rule at each prefix.
pub record ListsTo (kind : Kind) (zones : PlainZones) (number k : ℕ) (es : List (PlainPrefix × Standing)) : Type 0 where
  pub count : number ≡ k
  pub sorted : IsStrictlySortedBy prefix_order (keys_of es)
  pub listed : ListedTo prefix_order AnyPrefix (rules_in kind) zones k (λ p n. has_zone (zones_at prefix_order p es) n)

-- A summary with these zones as those that have rules, which is listed, and is edited at the prefixes of these triggers.
pub record EditsTo (kind : Kind) (next : NewZone) (having : ℕ) (before s : PlainSummary PlainPrefix) (done : List Trigger) : Type 0 where
  pub having_is : s.having ≡ having
  pub listed : s.is_listed ≡ true
  pub edited : EditedTo prefix_order AnyPrefix (rules_in kind) (λ p t. is_same (prefix_trigger kind p) t) next.number next.zone.now
      (λ p n. has_zone (zones_at prefix_order p before.triggers) n) (λ p n. has_zone (zones_at prefix_order p s.triggers) n) done

module _ (kind : Kind) (next : NewZone) (having : ℕ) (before : PlainSummary PlainPrefix) where
  pub edits_none : (s : PlainSummary PlainPrefix) → before.is_listed ≡ true → s.having ≡ having → s.is_listed ≡ before.is_listed → s.triggers ≡ before.triggers → EditsTo kind next having before s []
  edits_none s is having_is listed same = record {
    having_is = having_is;
    listed = listed ∙ is;
    edited =
        edited_none prefix_order AnyPrefix (rules_in kind) (λ p t. is_same (prefix_trigger kind p) t) next.number next.zone.now
        (λ p n. has_zone (zones_at prefix_order p before.triggers) n) (λ p n. has_zone (zones_at prefix_order p s.triggers) n) (λ p n. ap (λ (l : List (PlainPrefix × Standing)). has_zone (zones_at prefix_order p l) n) same);
  }

  -- one trigger more
  pub edits_more : (s after : PlainSummary PlainPrefix) (all : List Trigger) (k : ℕ) (t : Trigger) → EditsTo kind next having before s (take k all) → k < length all → t ≡ get_or all k t → after.having ≡ s.having → after.is_listed ≡ s.is_listed
      → ((p : PlainPrefix) (n : ℕ) → 1 ≤ n → n ≤ ZONE_LIMIT
      → has_zone (zones_at prefix_order p after.triggers) n ≡ cond (n == next.number && is_same (prefix_trigger kind p) t) (has_prefix kind next.zone.now p) (has_zone (zones_at prefix_order p s.triggers) n))
      → EditsTo kind next having before after (take (k + 1) all)
  edits_more s after all k t edits lt is having_is listed at = record {
    having_is = having_is ∙ edits.having_is;
    listed = listed ∙ edits.listed;
    edited =
        edited_next prefix_order AnyPrefix (rules_in kind) (λ p u. is_same (prefix_trigger kind p) u) next.number next.zone.now
        (λ p n. has_zone (zones_at prefix_order p before.triggers) n) (λ p n. has_zone (zones_at prefix_order p s.triggers) n) (λ p n. has_zone (zones_at prefix_order p after.triggers) n)
        (take k all) (take (k + 1) all) t
        (λ p.
        list_any_more (is_same (prefix_trigger kind p)) all k t lt ∙ ap (λ (u : Trigger). list_any (is_same (prefix_trigger kind p)) (take k all) || is_same (prefix_trigger kind p) u) (sym is))
        edits.edited (λ p is_valid n some within. at p n some within);
  }

module _ (kind : Kind) (of : is_of_patterns kind ≡ false) where
  having_some : (zones : PlainZones) (having : ℕ) → ZonesHave kind zones having → HaveSome prefix_order AnyPrefix (rules_in kind) zones having
  having_some zones having have n zone some within e = have.each n zone some within e ∙ some_of kind zone of

  -- a kind that isn't listed
  pub prefixes_unlisted : (zones : PlainZones) (s : PlainSummary PlainPrefix) → ZonesHave kind zones s.having → s.is_listed ≡ false → KnowsPrefixes kind zones s
  prefixes_unlisted zones s have unlisted = record { each = known_unlisted prefix_order AnyPrefix (rules_in kind) zones s (having_some zones s.having have) unlisted }

  -- one that is
  pub prefixes_listed : (zones : PlainZones) (s : PlainSummary PlainPrefix) → ZonesHave kind zones s.having
      → StandEach prefix_order AnyPrefix (rules_in kind) zones (λ p n. has_zone (zones_at prefix_order p s.triggers) n) → KnowsPrefixes kind zones s
  prefixes_listed zones s have stand = record { each = known_listed prefix_order AnyPrefix (rules_in kind) zones s (having_some zones s.having have) stand }

  -- one that is listed from entries
  pub prefixes_from : (zones : PlainZones) (s : PlainSummary PlainPrefix) (entries : List (PlainPrefix × Standing)) → ZonesHave kind zones s.having
      → ((p : PlainPrefix) → zones_at prefix_order p s.triggers ≡ zones_at prefix_order p entries)
      → StandEach prefix_order AnyPrefix (rules_in kind) zones (λ p n. has_zone (zones_at prefix_order p entries) n) → KnowsPrefixes kind zones s
  prefixes_from zones s entries have at stand =
      prefixes_listed zones s have (λ p is n zone some within e. ap (λ (k : ℕ). has_zone k n) (at p) ∙ stand p is n zone some within e)

  pub listed_if : {E : Type 0} (zones : PlainZones) (having : ℕ) (entries : List (PlainPrefix × Standing)) (r : Result (PlainSummary PlainPrefix) E) → ZonesHave kind zones having → IfOk r (λ s. s.having ≡ having)
      → IfOk r (λ s. (p : PlainPrefix) → zones_at prefix_order p s.triggers ≡ zones_at prefix_order p entries)
      → StandEach prefix_order AnyPrefix (rules_in kind) zones (λ p n. has_zone (zones_at prefix_order p entries) n) → IfOk r (KnowsPrefixes kind zones)
  listed_if zones having entries (Ok s) have same at stand = prefixes_from zones s entries (subst (ZonesHave kind zones) (sym same) have) at stand
  listed_if zones having entries (Err x) have same at stand = tt

  -- a zone without rules of the kind
  pub no_rules_in : (zone : PlainZone) → has_kind_in kind zone.origin zone.content ≡ false → list_any (λ _. true) (rules_in kind zone) ≡ false
  no_rules_in zone none = sym (some_of kind zone of) ∙ none

  pub lists_none : (zones : PlainZones) (es : List (PlainPrefix × Standing)) → es ≡ [] → ListsTo kind zones 0 0 es
  lists_none zones es e = record {
    count = refl;
    sorted = none_sorted es e;
    listed = listed_none prefix_order AnyPrefix (rules_in kind) zones (λ p n. has_zone (zones_at prefix_order p es) n) (λ p n. ap (λ (l : List (PlainPrefix × Standing)). has_zone (zones_at prefix_order p l) n) e ∙ no_zone n);
  }

  -- with the rules of the next zone
  pub lists_more : (zones : PlainZones) (number k : ℕ) (new : PlainZone) (es given made last : List (PlainPrefix × Standing)) → ListsTo kind zones number k es → zone_at zones (number + 1) ≡ Some new → given ≡ es → last ≡ made
      → IsStrictlySortedBy prefix_order (keys_of made)
      → ((p : PlainPrefix) (n : ℕ) → 1 ≤ n → n ≤ ZONE_LIMIT → has_zone (zones_at prefix_order p made) n ≡ (has_zone (zones_at prefix_order p given) n || (n == number + 1 && has_prefix kind new p)))
      → ListsTo kind zones (number + 1) (k + 1) last
  lists_more zones number k new es given made last lists there from to sorted more = record {
    count = ap (λ (m : ℕ). m + 1) lists.count;
    sorted = subst (λ (l : List (PlainPrefix × Standing)). IsStrictlySortedBy prefix_order (keys_of l)) (sym to) sorted;
    listed =
        listed_more prefix_order AnyPrefix (rules_in kind) zones k new (λ p n. has_zone (zones_at prefix_order p es) n) (λ p n. has_zone (zones_at prefix_order p last) n)
        (ap (λ (m : ℕ). zone_at zones (m + 1)) (sym lists.count) ∙ there) lists.listed
        (λ p is n some within.
        ap (λ (l : List (PlainPrefix × Standing)). has_zone (zones_at prefix_order p l) n) to
        ∙ more p n some within
        ∙ ap (λ (l : List (PlainPrefix × Standing)). has_zone (zones_at prefix_order p l) n || (n == number + 1 && has_prefix kind new p)) from
        ∙ ap (λ (m : ℕ). has_zone (zones_at prefix_order p es) n || (n == m + 1 && has_prefix kind new p)) lists.count);
  }

  -- past the next zone, which has none
  pub lists_past : (next : NewZone) (number k having : ℕ) (es last : List (PlainPrefix × Standing)) → IsThere next → ZonesHave kind (zones_after next) having → k < length next.zones.now → ListsTo kind (zones_after next) number k es → last ≡ es
      → has_zone having (number + 1) ≡ false → ListsTo kind (zones_after next) (number + 1) (k + 1) last
  lists_past next number k having es last there have lt lists to none =
      let zones : PlainZones = zones_after next in
      let size : length zones ≡ length next.zones.now = length-set (zones_before next) (next.number - 1) next.zone.now ∙ length-map next.zones.now arc_value in
      let within : k + 1 ≤ length zones = omega (arith, lt, size) in
      let limit : number + 1 ≤ ZONE_LIMIT = omega (arith, lists.count, lt, there.limit, length-map next.zones.now arc_value) in
      let zone = some_there zones (k + 1) (omega arith) within in
      let found : zone_at zones (number + 1) ≡ Some zone.0 = ap (λ (m : ℕ). zone_at zones (m + 1)) lists.count ∙ zone.1 in
      record {
        count = ap (λ (m : ℕ). m + 1) lists.count;
        sorted = subst (λ (l : List (PlainPrefix × Standing)). IsStrictlySortedBy prefix_order (keys_of l)) (sym to) lists.sorted;
        listed =
            subst (λ (l : List (PlainPrefix × Standing)). ListedTo prefix_order AnyPrefix (rules_in kind) zones (k + 1) (λ p n. has_zone (zones_at prefix_order p l) n)) (sym to)
            (listed_past prefix_order AnyPrefix (rules_in kind) zones k zone.0 (λ p n. has_zone (zones_at prefix_order p es) n) zone.1
            (no_rules_in zone.0 (sym (have.each (number + 1) zone.0 (omega arith) limit found) ∙ none)) lists.listed);
      }

  -- all zones
  pub lists_all : (next : NewZone) (number k : ℕ) (es given : List (PlainPrefix × Standing)) → ListsTo kind (zones_after next) number k es → length next.zones.now ≤ k → given ≡ es
      → StandEach prefix_order AnyPrefix (rules_in kind) (zones_after next) (λ p n. has_zone (zones_at prefix_order p given) n)
  lists_all next number k es given lists all from =
      let zones : PlainZones = zones_after next in
      let size : length zones ≡ length next.zones.now = length-set (zones_before next) (next.number - 1) next.zone.now ∙ length-map next.zones.now arc_value in
      subst (λ (l : List (PlainPrefix × Standing)). StandEach prefix_order AnyPrefix (rules_in kind) zones (λ p n. has_zone (zones_at prefix_order p l) n)) (sym from)
      (listed_all prefix_order AnyPrefix (rules_in kind) zones k (λ p n. has_zone (zones_at prefix_order p es) n) (omega (arith, size, all)) lists.listed)

  module _ (next : NewZone) (there : IsThere next) (s : PlainSummary PlainPrefix) (knows : KnowsPrefixes kind (zones_before next) s) where
    -- a zone that has no rules and had none
    pub prefixes_as_before : has_zone s.having next.number ≡ false → has_kind_in kind next.zone.now.origin next.zone.now.content ≡ false → KnowsPrefixes kind (zones_after next) s
    prefixes_as_before had has = record {
      each = known_as_before prefix_order AnyPrefix (rules_in kind) (zones_before next) next.number next.zone.now there.some there.within s (limit next there) knows.each had (no_rules_in next.zone.now has);
    }
      where
        limit : (next : NewZone) → IsThere next → next.number ≤ ZONE_LIMIT
        limit next there = omega (arith, there.within, there.limit)

    -- the zones that have rules then
    pub prefixes_having : (having : ℕ) (has : Bool) → has ≡ has_kind_in kind next.zone.now.origin next.zone.now.content
        → ((n : ℕ) → 1 ≤ n → n ≤ ZONE_LIMIT → has_zone having n ≡ cond (n == next.number) has (has_zone s.having n)) → ZonesHave kind (zones_after next) having
    prefixes_having having has is with = record {
      each = λ n zone some within e.
          have_after prefix_order AnyPrefix (rules_in kind) (zones_before next) next.number next.zone.now there.some there.within having has s knows.each (is ∙ some_of kind next.zone.now of) with n zone some within e
          ∙ sym (some_of kind zone of);
    }

    -- what stands of the other zones, and the rules of the zone
    pub prefixes_merged : (others entries : List (PlainPrefix × Standing)) → s.is_listed ≡ true
        → ((p : PlainPrefix) (n : ℕ) → 1 ≤ n → n ≤ ZONE_LIMIT → has_zone (zones_at prefix_order p others) n ≡ (not (n == next.number) && has_zone (zones_at prefix_order p s.triggers) n))
        → ((p : PlainPrefix) (n : ℕ) → 1 ≤ n → n ≤ ZONE_LIMIT → has_zone (zones_at prefix_order p entries) n ≡ (has_zone (zones_at prefix_order p others) n || (n == next.number && has_prefix kind next.zone.now p)))
        → StandEach prefix_order AnyPrefix (rules_in kind) (zones_after next) (λ p n. has_zone (zones_at prefix_order p entries) n)
    prefixes_merged others entries listed left more =
        stand_relisted prefix_order AnyPrefix (rules_in kind) (zones_before next) next.number next.zone.now there.some there.within (λ p n. has_zone (zones_at prefix_order p entries) n) s knows.each listed
        (λ p is n some within. more p n some within ∙ ap (λ (b : Bool). b || (n == next.number && has_prefix kind next.zone.now p)) (left p n some within))

    -- what is known once all triggers are edited
    pub edits_all : TriggerLaws → (having : ℕ) (after : PlainSummary PlainPrefix) (all : List Trigger) (k : ℕ) → s.is_listed ≡ true → ZonesHave kind (zones_after next) having → AreSameElsewhere next all
        → length all ≤ k → EditsTo kind next having s after (take k all) → KnowsPrefixes kind (zones_after next) after
    edits_all laws having after all k listed have others last edits =
        prefixes_listed (zones_after next) after (subst (ZonesHave kind (zones_after next)) (sym edits.having_is) have)
        (stand_edited prefix_order AnyPrefix (rules_in kind) (λ p t. is_same (prefix_trigger kind p) t) next.number next.zone.now (zones_before next) there.some there.within (omega (arith, there.within, there.limit))
        (λ p n. has_zone (zones_at prefix_order p after.triggers) n) s all knows.each listed (kept_of laws kind next all of others)
        (subst (λ (l : List Trigger). EditedTo prefix_order AnyPrefix (rules_in kind) (λ p t. is_same (prefix_trigger kind p) t) next.number next.zone.now
        (λ p n. has_zone (zones_at prefix_order p s.triggers) n) (λ p n. has_zone (zones_at prefix_order p after.triggers) n) l) (take_all k all last) edits.edited))
