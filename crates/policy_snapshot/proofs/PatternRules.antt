-- The rules of a kind of patterns in a zone, as look-ups, triggers and summaries tell them.
use Rattle.std.proofs.Common.{◌≡◌, ℕ, ◌+◌, ◌≤◌, ◌<◌, ◌==◌, Bool, true, false, cond, ◌&&◌, ◌||◌, List, [], ◌∷◌, length, take, get_or, Option, Some, None, Result, Ok, Err, refl, sym, ap, subst, ◌∙◌, true≢false, arith}
use Rattle.std.specs.Prelude.{map, not, is_some, IfOk, ◌↔◌, IsTrue}
use Rattle.std.specs.BTreeMap.{is_at}
use Rattle.std.specs.List.{list_any}
use Rattle.std.specs.List.Sorted.{IsStrictlySortedBy}
use Rattle.std.specs.Map.{lookup}
use Rattle.std.specs.Option.{option_map}
use Rattle.std.proofs.lemmas.List.{take_all}
use Rattle.std.proofs.lemmas.List.Folds.{list_any_more}
use Rattle.action_codec.specs.Action.{action_by}
use Rattle.action_codec.specs.declared.action.Action.{Action}
use Rattle.dns_name.specs.Alike.{PlainPattern}
use Rattle.dns_name.specs.Labels.{Name}
use Rattle.dns_record.specs.Row.{PlainRow}
use Rattle.octet_trie.specs.Trie.{found_entry}
use Rattle.octet_trie.specs.declared.trie.OctetFound.{OctetFound}
use Rattle.qname_index.specs.Best.{pattern_order}
use Rattle.qname_index.specs.Index.{IsKey}
use Rattle.qname_index.specs.Ranked.{pattern_key}
use Rattle.qname_index.specs.Trie.{IsNameTrie}
use Rattle.summary_index.specs.Entries.{zones_by_key}
use Rattle.summary_index.specs.Summary.{PlainSummary, Standing, zones_at, zones_in}
use Rattle.summary_index.specs.Zones.{has_zone}
use Rattle.trigger_codec.specs.Bases.{IsPattern, IsTrigger}
use Rattle.trigger_codec.specs.declared.trigger.Kind.{Kind}
use Rattle.trigger_codec.specs.declared.trigger.Kind.TheVariants as kinds
use Rattle.trigger_codec.specs.declared.trigger.Trigger.{Trigger}
use Rattle.trigger_codec.specs.declared.trigger.Trigger.TheVariants.{ClientIp, Qname, ResponseIp, NsDname, NsIp}
use Rattle.zone_index.specs.ActingEntries.{StandsByKey, at_pattern, marked_if_rule, pattern_rules}
use Rattle.zone_index.specs.Addresses as rows
use Rattle.zone_index.specs.Indexed.{PlainIndex, content_rule, index_of}
use Rattle.zone_index.specs.Kinds.{PlainRules}
use Rattle.zone_index.specs.Laws.{rule_at}
use Rattle.zone_index.specs.Listed.{is_same, rows_of}
use Rattle.zone_index.specs.Rules.{rules_of}
use Rattle.zone_rows.specs.declared.zone.Content.{Content}
use Rattle.zone_rows.specs.declared.zone.PlainZone.{PlainZone}
use Rattle.policy_snapshot.specs.Listing.{AreSameElsewhere, IsThere, KnowsPatterns, ZonesHave, has_pattern, is_of_patterns, pattern_of_kind, pattern_trigger, zones_after, zones_before}
use Rattle.policy_snapshot.specs.Lookup.{has_kind_in}
use Rattle.policy_snapshot.specs.Policy.{PlainZones, zone_at}
use Rattle.policy_snapshot.specs.Summed.{content_entries}
use Rattle.policy_snapshot.specs.declared.new_zone.NewZone.{NewZone}
use Rattle.policy_snapshot.proofs.ListedRules.{EditedTo, HaveSome, ListedTo, StandEach, edited_here, edited_next, edited_none, have_after, known_as_before, known_listed, known_unlisted, listed_all, listed_more, listed_none, listed_past, marked_at, no_zone, nothing_at, stand_edited, stand_relisted}
use Rattle.policy_snapshot.proofs.NewZones.{some_there}
use Rattle.zone_rows.specs.declared.zone.TheConstants.{ZONE_LIMIT}

-- the rules of the kind in a zone
abbrev pub rules_in : Kind → PlainZone → List (PlainPattern × Action)
rules_in kind zone = pattern_rules (content_entries zone.origin zone.content) kind

some_any : {X : Type 0} (xs : List X) → rows.has_some xs ≡ list_any (λ _. true) xs
some_any [] = refl
some_any (x ∷ xs) = refl

some_by : (kind : Kind) (origin : Name) (content : Option Content) → is_of_patterns kind ≡ true → has_kind_in kind origin content ≡ list_any (λ _. true) (pattern_rules (content_entries origin content) kind)
some_by kinds.ClientIp origin content of = absurd (true≢false (sym of))
some_by kinds.Qname origin None of = refl
some_by kinds.Qname origin (Some content) of = some_any (rules_of origin content.rows).qname
some_by kinds.ResponseIp origin content of = absurd (true≢false (sym of))
some_by kinds.NsDname origin None of = refl
some_by kinds.NsDname origin (Some content) of = some_any (rules_of origin content.rows).nsdname
some_by kinds.NsIp origin content of = absurd (true≢false (sym of))

-- whether the zone has rules of the kind
pub some_of : (kind : Kind) (zone : PlainZone) → is_of_patterns kind ≡ true → has_kind_in kind zone.origin zone.content ≡ list_any (λ _. true) (rules_in kind zone)
some_of kind zone of = some_by kind zone.origin zone.content of

-- what two clauses say of a result together
pub if_both : {T E : Type 0} (r : Result T E) (P Q R : T → Type 0) → ((x : T) → P x → Q x → R x) → IfOk r P → IfOk r Q → IfOk r R
if_both (Ok x) P Q R both p q = both x p q
if_both (Err e) P Q R both p q = q

some_mapped : {X Y : Type 0} (f : X → Y) (found : Option X) → is_some found ≡ is_some (option_map f found)
some_mapped f None = refl
some_mapped f (Some x) = refl

-- whether a look-up finds a rule
pub is_found : {X : Type 0} (has : Bool) (f : X → Action) (found : Option X) (rule : Option Action) → has ≡ is_some found → option_map f found ≡ rule → has ≡ is_some rule
is_found has f found rule e same = e ∙ some_mapped f found ∙ ap is_some same

-- ---- the rules of one zone by their keys

-- a list without entries
pub empty_trie : {N M : Type 0} (entries : List (OctetFound N M)) → entries ≡ [] → IsNameTrie (map found_entry entries)
unfolding IsStrictlySortedBy
empty_trie entries e = subst (λ es. IsNameTrie (map found_entry es)) (sym e) (record { keys = tt; ordered = tt })

no_rules : (kind : Kind) (origin : Name) (p : PlainPattern) → is_some (lookup (is_at (pattern_order p)) (pattern_rules (content_entries origin None) kind)) ≡ false
no_rules kinds.ClientIp origin p = refl
no_rules kinds.Qname origin p = refl
no_rules kinds.ResponseIp origin p = refl
no_rules kinds.NsDname origin p = refl
no_rules kinds.NsIp origin p = refl

none_in : (kind : Kind) (origin : Name) (content : Option Content) (p : PlainPattern) → None ≡ index_of origin content
    → is_some (lookup (is_at (pattern_order p)) (pattern_rules (content_entries origin content) kind)) ≡ false
none_in kind origin None p e = no_rules kind origin p
none_in kind origin (Some content) p e = absurd cc

-- those of a zone in which nothing is loaded
pub none_by_key : (kind : Kind) (zone : PlainZone) (entries : List (OctetFound ℕ Bool)) (number : ℕ) → entries ≡ [] → None ≡ index_of zone.origin zone.content
    → (p : PlainPattern) (n : ℕ) → has_zone (zones_by_key (pattern_key p) entries) n ≡ (n == number && has_pattern kind zone p)
none_by_key kind zone entries number empty none p n =
    ap (λ es. has_zone (zones_by_key (pattern_key p) es) n) empty ∙ nothing_at number n (has_pattern kind zone p) (none_in kind zone.origin zone.content p none)

rules_are : (origin : Name) (content : Option Content) (index : PlainIndex) → Some index ≡ index_of origin content → index.rules ≡ content_entries origin content
rules_are origin None index e = absurd cc
rules_are origin (Some content) index e = ap (λ (i : PlainIndex). i.rules) (index_is index _ e)
  where
    index_is : (a b : PlainIndex) → Some a ≡ Some b → a ≡ b
    index_is a b e = cc e

-- and those of a zone whose rules these are
pub some_by_key : (kind : Kind) (zone : PlainZone) (index : PlainIndex) (rules : PlainRules) (number none zones : ℕ) → Some index ≡ index_of zone.origin zone.content → rules ≡ index.rules
    → ((n : ℕ) → has_zone none n ≡ false) → ((n : ℕ) → 1 ≤ n → has_zone zones n ≡ (n == number || has_zone none n))
    → (entries : List (OctetFound ℕ Bool)) → StandsByKey (λ p. marked_if_rule zones (at_pattern (pattern_rules rules kind) p)) (map found_entry entries)
    → (p : PlainPattern) → IsPattern p → (n : ℕ) → 1 ≤ n → has_zone (zones_by_key (pattern_key p) entries) n ≡ (n == number && has_pattern kind zone p)
some_by_key kind zone index rules number none zones is same empty with entries stand p is_p n some =
    ap (λ found. has_zone (zones_in found) n) (stand p is_p)
    ∙ marked_at (at_pattern (pattern_rules rules kind) p) zones number n (with n some ∙ ap (λ (b : Bool). n == number || b) (empty n ∙ sym (no_zone n)))
    ∙ ap (λ (all : PlainRules). n == number && is_some (at_pattern (pattern_rules all kind) p)) (same ∙ rules_are zone.origin zone.content index is)

-- entries with the rules of a zone
pub merged_by_key : (number : ℕ) (rule : PlainPattern → Bool) (first second rules : List (OctetFound ℕ Bool)) (all : List (OctetFound ℕ Bool)) → second ≡ rules
    → ((p : PlainPattern) → IsPattern p → (n : ℕ) → 1 ≤ n → n ≤ ZONE_LIMIT → has_zone (zones_by_key (pattern_key p) rules) n ≡ (n == number && rule p))
    → ((key : List ℕ) (n : ℕ) → has_zone (zones_by_key key all) n ≡ (has_zone (zones_by_key key first) n || has_zone (zones_by_key key second) n))
    → (p : PlainPattern) → IsPattern p → (n : ℕ) → 1 ≤ n → n ≤ ZONE_LIMIT → has_zone (zones_by_key (pattern_key p) all) n ≡ (has_zone (zones_by_key (pattern_key p) first) n || (n == number && rule p))
merged_by_key number rule first second rules all same by_rule merged p is n some within =
    merged (pattern_key p) n
    ∙ ap (λ es. has_zone (zones_by_key (pattern_key p) first) n || has_zone (zones_by_key (pattern_key p) es) n) same
    ∙ ap (λ (b : Bool). has_zone (zones_by_key (pattern_key p) first) n || b) (by_rule p is n some within)

-- What lower crates say of triggers: those of one place are equal, and a rule does what its rows do.
pub record TriggerLaws : Type 0 where
  pub same : (t u : Trigger) → IsTrigger t → IsTrigger u → IsTrue (is_same t u) ↔ (t ≡ u)
  pub at : (origin : Name) (rows : List PlainRow) (t : Trigger) → rule_at (rules_of origin rows) t ≡ action_by t (rows_of origin rows t)

same_pattern : TriggerLaws → (a b : PlainPattern) → IsPattern a → IsPattern b → is_at (pattern_order a) b ≡ true → a ≡ b
same_pattern laws a b is other at = pattern_is a b ((laws.same (Qname a) (Qname b) is other).0 at)
  where
    pattern_is : (a b : PlainPattern) → Qname a ≡ Qname b → a ≡ b
    pattern_is a b e = cc e

-- ---- the trigger of a pattern

-- it is a trigger
pub trigger_is : (kind : Kind) (p : PlainPattern) → is_of_patterns kind ≡ true → IsPattern p → IsTrigger (pattern_trigger kind p)
trigger_is kinds.ClientIp p of is = absurd (true≢false (sym of))
trigger_is kinds.Qname p of is = is
trigger_is kinds.ResponseIp p of is = absurd (true≢false (sym of))
trigger_is kinds.NsDname p of is = is
trigger_is kinds.NsIp p of is = absurd (true≢false (sym of))

rule_by : TriggerLaws → (kind : Kind) (origin : Name) (content : Option Content) (p : PlainPattern) → is_of_patterns kind ≡ true
    → lookup (is_at (pattern_order p)) (pattern_rules (content_entries origin content) kind) ≡ content_rule origin content (pattern_trigger kind p)
rule_by laws kinds.ClientIp origin content p of = absurd (true≢false (sym of))
rule_by laws kinds.Qname origin None p of = refl
rule_by laws kinds.Qname origin (Some content) p of = laws.at origin content.rows (Qname p)
rule_by laws kinds.ResponseIp origin content p of = absurd (true≢false (sym of))
rule_by laws kinds.NsDname origin None p of = refl
rule_by laws kinds.NsDname origin (Some content) p of = laws.at origin content.rows (NsDname p)
rule_by laws kinds.NsIp origin content p of = absurd (true≢false (sym of))

-- whether the zone has a rule at the pattern
pub rule_of : TriggerLaws → (kind : Kind) (zone : PlainZone) (p : PlainPattern) → is_of_patterns kind ≡ true → has_pattern kind zone p ≡ is_some (content_rule zone.origin zone.content (pattern_trigger kind p))
rule_of laws kind zone p of = ap is_some (rule_by laws kind zone.origin zone.content p of)

-- a trigger without a pattern of the kind is that of no pattern
pub other_trigger : (kind : Kind) (t : Trigger) (p : PlainPattern) → is_of_patterns kind ≡ true → None ≡ pattern_of_kind kind t → is_same (pattern_trigger kind p) t ≡ false
other_trigger kinds.ClientIp t p of e = absurd (true≢false (sym of))
other_trigger kinds.Qname (ClientIp q) p of e = refl
other_trigger kinds.Qname (Qname q) p of e = absurd cc
other_trigger kinds.Qname (ResponseIp q) p of e = refl
other_trigger kinds.Qname (NsDname q) p of e = refl
other_trigger kinds.Qname (NsIp q) p of e = refl
other_trigger kinds.ResponseIp t p of e = absurd (true≢false (sym of))
other_trigger kinds.NsDname (ClientIp q) p of e = refl
other_trigger kinds.NsDname (Qname q) p of e = refl
other_trigger kinds.NsDname (ResponseIp q) p of e = refl
other_trigger kinds.NsDname (NsDname q) p of e = absurd cc
other_trigger kinds.NsDname (NsIp q) p of e = refl
other_trigger kinds.NsIp t p of e = absurd (true≢false (sym of))

-- The trigger is that of the pattern.
record IsOf (kind : Kind) (t : Trigger) (q : PlainPattern) : Type 0 where
  is : t ≡ pattern_trigger kind q
  pattern : IsTrigger t → IsPattern q
  same : (p : PlainPattern) → is_same (pattern_trigger kind p) t ≡ is_at (pattern_order p) q

some_pattern : (a b : PlainPattern) → Some a ≡ Some b → b ≡ a
some_pattern a b e = cc e

trigger_of : (kind : Kind) (t : Trigger) (q : PlainPattern) → is_of_patterns kind ≡ true → Some q ≡ pattern_of_kind kind t → IsOf kind t q
trigger_of kinds.ClientIp t q of e = absurd (true≢false (sym of))
trigger_of kinds.Qname (ClientIp p) q of e = absurd cc
trigger_of kinds.Qname (Qname p) q of e = let same : p ≡ q = some_pattern q p e in record { is = ap Qname same; pattern = λ h. subst IsPattern same h; same = λ x. ap (is_at (pattern_order x)) same }
trigger_of kinds.Qname (ResponseIp p) q of e = absurd cc
trigger_of kinds.Qname (NsDname p) q of e = absurd cc
trigger_of kinds.Qname (NsIp p) q of e = absurd cc
trigger_of kinds.ResponseIp t q of e = absurd (true≢false (sym of))
trigger_of kinds.NsDname (ClientIp p) q of e = absurd cc
trigger_of kinds.NsDname (Qname p) q of e = absurd cc
trigger_of kinds.NsDname (ResponseIp p) q of e = absurd cc
trigger_of kinds.NsDname (NsDname p) q of e = let same : p ≡ q = some_pattern q p e in record { is = ap NsDname same; pattern = λ h. subst IsPattern same h; same = λ x. ap (is_at (pattern_order x)) same }
trigger_of kinds.NsDname (NsIp p) q of e = absurd cc
trigger_of kinds.NsIp t q of e = absurd (true≢false (sym of))

-- ---- edits

-- what stands where the trigger has no pattern of the kind
pub edited_not : (kind : Kind) (t : Trigger) (p : PlainPattern) (number n : ℕ) (has before : Bool) → is_of_patterns kind ≡ true → None ≡ pattern_of_kind kind t
    → before ≡ cond (n == number && is_same (pattern_trigger kind p) t) has before
edited_not kind t p number n has before of e =
    none_of (n == number) has before ∙ ap (λ (b : Bool). cond (n == number && b) has before) (sym (other_trigger kind t p of e))
  where
    none_of : (a x y : Bool) → y ≡ cond (a && false) x y
    none_of true x y = refl
    none_of false x y = refl

-- and where it has one
pub edited_of : TriggerLaws → (kind : Kind) (t : Trigger) (q : PlainPattern) (zone : PlainZone) (number : ℕ) (has : Bool) (before after : List (PlainPattern × Standing))
    → is_of_patterns kind ≡ true → Some q ≡ pattern_of_kind kind t → IsTrigger t → has ≡ is_some (content_rule zone.origin zone.content t)
    → ((n : ℕ) → 1 ≤ n → n ≤ ZONE_LIMIT → has_zone (zones_at pattern_order q after) n ≡ cond (n == number) has (has_zone (zones_at pattern_order q before) n))
    → ((p : PlainPattern) → is_at (pattern_order p) q ≡ false → zones_at pattern_order p after ≡ zones_at pattern_order p before)
    → (p : PlainPattern) → IsPattern p → (n : ℕ) → 1 ≤ n → n ≤ ZONE_LIMIT
    → has_zone (zones_at pattern_order p after) n ≡ cond (n == number && is_same (pattern_trigger kind p) t) (has_pattern kind zone p) (has_zone (zones_at pattern_order p before) n)
edited_of laws kind t q zone number has before after of e is has_is here elsewhere p is_p n some within =
    let at = trigger_of kind t q of e in
    let rule : has ≡ has_pattern kind zone q =
    has_is ∙ ap (λ (u : Trigger). is_some (content_rule zone.origin zone.content u)) at.is ∙ sym (rule_of laws kind zone q of) in
    edited_here pattern_order IsPattern (same_pattern laws) q (at.pattern is) number has (has_pattern kind zone) before after rule here elsewhere p is_p n some within
    ∙ ap (λ (b : Bool). cond (n == number && b) (has_pattern kind zone p) (has_zone (zones_at pattern_order p before) n)) (sym (at.same p))

-- the rules at other patterns are those of before
pub kept_of : TriggerLaws → (kind : Kind) (next : NewZone) (triggers : List Trigger) → is_of_patterns kind ≡ true → AreSameElsewhere next triggers
    → (old : PlainZone) → zone_at (zones_before next) next.number ≡ Some old → (p : PlainPattern) → IsPattern p → list_any (is_same (pattern_trigger kind p)) triggers ≡ false
    → has_pattern kind next.zone.now p ≡ has_pattern kind old p
kept_of laws kind next triggers of others old e p is none =
    rule_of laws kind next.zone.now p of
    ∙ ap is_some (others.each old e (pattern_trigger kind p) (trigger_is kind p of is) none)
    ∙ sym (rule_of laws kind old p of)

-- ---- all zones

key_is : (p : PlainPattern) → IsPattern p → IsKey p
key_is p is = record { name = is.is_base; lower_case = is.is_lower_case }

limit : (next : NewZone) → IsThere next → next.number ≤ ZONE_LIMIT
limit next there = omega (arith, there.within, there.limit)

-- at each pattern stand those of the first so many zones that have a rule there
abbrev pub NamesTo : Kind → PlainZones → ℕ → List (OctetFound ℕ Bool) → Type 0
NamesTo kind zones k entries = ListedTo pattern_order IsPattern (rules_in kind) zones k (λ p n. has_zone (zones_by_key (pattern_key p) entries) n)

-- the zone stands at the patterns of these triggers as it has rules now; all else is as before
abbrev pub AreEdited : Kind → NewZone → PlainSummary PlainPattern → PlainSummary PlainPattern → List Trigger → Type 0
AreEdited kind next before after done =
    EditedTo pattern_order IsPattern (rules_in kind) (λ p t. is_same (pattern_trigger kind p) t) next.number next.zone.now
    (λ p n. has_zone (zones_at pattern_order p before.triggers) n) (λ p n. has_zone (zones_at pattern_order p after.triggers) n) done

-- no trigger
pub names_edited_none : (kind : Kind) (next : NewZone) (before after : PlainSummary PlainPattern) → after.triggers ≡ before.triggers → AreEdited kind next before after []
names_edited_none kind next before after same =
    edited_none pattern_order IsPattern (rules_in kind) (λ p t. is_same (pattern_trigger kind p) t) next.number next.zone.now
    (λ p n. has_zone (zones_at pattern_order p before.triggers) n) (λ p n. has_zone (zones_at pattern_order p after.triggers) n)
    (λ p n. ap (λ es. has_zone (zones_at pattern_order p es) n) same)

-- one trigger more
pub names_edited_more : (kind : Kind) (next : NewZone) (before after last : PlainSummary PlainPattern) (triggers : List Trigger) (k : ℕ) (t : Trigger) → k < length triggers → t ≡ get_or triggers k t
    → AreEdited kind next before after (take k triggers)
    → ((p : PlainPattern) → IsPattern p → (n : ℕ) → 1 ≤ n → n ≤ ZONE_LIMIT
    → has_zone (zones_at pattern_order p last.triggers) n
    ≡ cond (n == next.number && is_same (pattern_trigger kind p) t) (has_pattern kind next.zone.now p) (has_zone (zones_at pattern_order p after.triggers) n))
    → AreEdited kind next before last (take (k + 1) triggers)
names_edited_more kind next before after last triggers k t lt is edited with =
    edited_next pattern_order IsPattern (rules_in kind) (λ p u. is_same (pattern_trigger kind p) u) next.number next.zone.now
    (λ p n. has_zone (zones_at pattern_order p before.triggers) n) (λ p n. has_zone (zones_at pattern_order p after.triggers) n) (λ p n. has_zone (zones_at pattern_order p last.triggers) n)
    (take k triggers) (take (k + 1) triggers) t
    (λ p. list_any_more (is_same (pattern_trigger kind p)) triggers k t lt ∙ ap (λ (u : Trigger). list_any (is_same (pattern_trigger kind p)) (take k triggers) || is_same (pattern_trigger kind p) u) (sym is))
    edited with

module _ (kind : Kind) (of : is_of_patterns kind ≡ true) where
  having_some : (zones : PlainZones) (having : ℕ) → ZonesHave kind zones having → HaveSome pattern_order IsPattern (rules_in kind) zones having
  having_some zones having have n zone some within e = have.each n zone some within e ∙ some_of kind zone of

  -- a kind that isn't listed
  pub names_unlisted : (zones : PlainZones) (s : PlainSummary PlainPattern) → ZonesHave kind zones s.having → s.is_listed ≡ false → KnowsPatterns kind zones s
  names_unlisted zones s have unlisted = record { each = known_unlisted pattern_order IsPattern (rules_in kind) zones s (having_some zones s.having have) unlisted }

  -- one that is
  pub names_listed : (zones : PlainZones) (s : PlainSummary PlainPattern) → ZonesHave kind zones s.having
      → StandEach pattern_order IsPattern (rules_in kind) zones (λ p n. has_zone (zones_at pattern_order p s.triggers) n) → KnowsPatterns kind zones s
  names_listed zones s have stand = record { each = known_listed pattern_order IsPattern (rules_in kind) zones s (having_some zones s.having have) stand }

  -- one that is listed from entries
  pub names_from : (zones : PlainZones) (s : PlainSummary PlainPattern) (entries : List (OctetFound ℕ Bool)) → ZonesHave kind zones s.having
      → ((p : PlainPattern) → IsKey p → zones_at pattern_order p s.triggers ≡ zones_by_key (pattern_key p) entries)
      → StandEach pattern_order IsPattern (rules_in kind) zones (λ p n. has_zone (zones_by_key (pattern_key p) entries) n) → KnowsPatterns kind zones s
  names_from zones s entries have at stand =
      names_listed zones s have
      (λ p is n zone some within e. ap (λ (k : ℕ). has_zone k n) (at p (key_is p is)) ∙ stand p is n zone some within e)

  module _ (next : NewZone) (there : IsThere next) (s : PlainSummary PlainPattern) (knows : KnowsPatterns kind (zones_before next) s) where
    -- a zone that has no rules and had none
    pub names_as_before : has_zone s.having next.number ≡ false → has_kind_in kind next.zone.now.origin next.zone.now.content ≡ false → KnowsPatterns kind (zones_after next) s
    names_as_before had has = record {
      each = known_as_before pattern_order IsPattern (rules_in kind) (zones_before next) next.number next.zone.now there.some there.within s (limit next there) knows.each had (sym (some_of kind next.zone.now of) ∙ has);
    }

    -- the zones that have rules then
    pub names_having : (had having : ℕ) (has : Bool) → had ≡ s.having → has ≡ has_kind_in kind next.zone.now.origin next.zone.now.content
        → ((n : ℕ) → 1 ≤ n → n ≤ ZONE_LIMIT → has_zone having n ≡ cond (n == next.number) has (has_zone had n)) → ZonesHave kind (zones_after next) having
    names_having had having has same is with = record {
      each = λ n zone some within e.
          have_after pattern_order IsPattern (rules_in kind) (zones_before next) next.number next.zone.now there.some there.within having has s knows.each (is ∙ some_of kind next.zone.now of)
          (λ m low high. with m low high ∙ ap (λ (zones : ℕ). cond (m == next.number) has (has_zone zones m)) same) n zone some within e
          ∙ sym (some_of kind zone of);
    }

    -- one that is listed anew, from what there was of other zones and from the rules of the zone
    pub names_relisted : s.is_listed ≡ true → (others first entries last : List (OctetFound ℕ Bool)) → first ≡ others → last ≡ entries
        → ((p : PlainPattern) → IsKey p → (n : ℕ) → 1 ≤ n → n ≤ ZONE_LIMIT → has_zone (zones_by_key (pattern_key p) others) n ≡ (not (n == next.number) && has_zone (zones_at pattern_order p s.triggers) n))
        → ((p : PlainPattern) → IsPattern p → (n : ℕ) → 1 ≤ n → n ≤ ZONE_LIMIT
        → has_zone (zones_by_key (pattern_key p) entries) n ≡ (has_zone (zones_by_key (pattern_key p) first) n || (n == next.number && has_pattern kind next.zone.now p)))
        → (t : PlainSummary PlainPattern) (having : ℕ) → ZonesHave kind (zones_after next) having → t.having ≡ having
        → ((p : PlainPattern) → IsKey p → zones_at pattern_order p t.triggers ≡ zones_by_key (pattern_key p) last) → KnowsPatterns kind (zones_after next) t
    names_relisted listed others first entries last same equal without merged t having have is at =
        names_from (zones_after next) t last (subst (ZonesHave kind (zones_after next)) (sym is) have) at
        (stand_relisted pattern_order IsPattern (rules_in kind) (zones_before next) next.number next.zone.now there.some there.within
        (λ p n. has_zone (zones_by_key (pattern_key p) last) n) s knows.each listed
        (λ p is_p n some within.
        ap (λ es. has_zone (zones_by_key (pattern_key p) es) n) equal
        ∙ merged p is_p n some within
        ∙ ap (λ es. has_zone (zones_by_key (pattern_key p) es) n || (n == next.number && has_pattern kind next.zone.now p)) same
        ∙ ap (λ (b : Bool). b || (n == next.number && has_pattern kind next.zone.now p)) (without p (key_is p is_p) n some within)))

    -- one that was edited trigger by trigger
    pub names_edited : TriggerLaws → s.is_listed ≡ true → (triggers : List Trigger) → AreSameElsewhere next triggers
        → (t : PlainSummary PlainPattern) (having : ℕ) → ZonesHave kind (zones_after next) having → t.having ≡ having
        → (k : ℕ) → length triggers ≤ k → AreEdited kind next s t (take k triggers) → KnowsPatterns kind (zones_after next) t
    names_edited laws listed triggers others t having have is k all edited =
        names_listed (zones_after next) t (subst (ZonesHave kind (zones_after next)) (sym is) have)
        (stand_edited pattern_order IsPattern (rules_in kind) (λ p u. is_same (pattern_trigger kind p) u) next.number next.zone.now (zones_before next) there.some there.within (limit next there)
        (λ p n. has_zone (zones_at pattern_order p t.triggers) n) s triggers knows.each listed (kept_of laws kind next triggers of others)
        (subst (AreEdited kind next s t) (take_all k triggers all) edited))

  -- ---- listed from all zones

  pub names_none : (zones : PlainZones) (entries : List (OctetFound ℕ Bool)) → entries ≡ [] → NamesTo kind zones 0 entries
  names_none zones entries empty =
      listed_none pattern_order IsPattern (rules_in kind) zones (λ p n. has_zone (zones_by_key (pattern_key p) entries) n)
      (λ p n. ap (λ es. has_zone (zones_by_key (pattern_key p) es) n) empty ∙ no_zone n)

  -- and those of the next zone
  pub names_more : (zones : PlainZones) (k number : ℕ) (new : PlainZone) (entries first after last : List (OctetFound ℕ Bool)) → first ≡ entries → last ≡ after → number ≡ k → zone_at zones (number + 1) ≡ Some new
      → NamesTo kind zones k entries
      → ((p : PlainPattern) → IsPattern p → (n : ℕ) → 1 ≤ n → n ≤ ZONE_LIMIT → has_zone (zones_by_key (pattern_key p) after) n ≡ (has_zone (zones_by_key (pattern_key p) first) n || (n == (number + 1) && has_pattern kind new p)))
      → NamesTo kind zones (k + 1) last
  names_more zones k number new entries first after last same equal count there before merged =
      listed_more pattern_order IsPattern (rules_in kind) zones k new (λ p n. has_zone (zones_by_key (pattern_key p) entries) n) (λ p n. has_zone (zones_by_key (pattern_key p) last) n)
      (ap (λ (m : ℕ). zone_at zones (m + 1)) (sym count) ∙ there) before
      (λ p is n some within.
      ap (λ es. has_zone (zones_by_key (pattern_key p) es) n) equal
      ∙ merged p is n some within
      ∙ ap (λ es. has_zone (zones_by_key (pattern_key p) es) n || (n == (number + 1) && has_pattern kind new p)) same
      ∙ ap (λ (m : ℕ). has_zone (zones_by_key (pattern_key p) entries) n || (n == (m + 1) && has_pattern kind new p)) count)

  -- the next zone has none
  pub names_past : (zones : PlainZones) (having k number : ℕ) (entries last : List (OctetFound ℕ Bool)) → last ≡ entries → number ≡ k → k < length zones → length zones ≤ ZONE_LIMIT → ZonesHave kind zones having
      → has_zone having (number + 1) ≡ false → NamesTo kind zones k entries → NamesTo kind zones (k + 1) last
  names_past zones having k number entries last equal count lt limit have none before =
      let new = some_there zones (k + 1) (omega arith) (omega (arith, lt)) in
      let no_rule : list_any (λ _. true) (rules_in kind new.0) ≡ false =
      sym (having_some zones having have (k + 1) new.0 (omega arith) (omega (arith, lt, limit)) new.1) ∙ ap (λ (m : ℕ). has_zone having (m + 1)) (sym count) ∙ none in
      subst (NamesTo kind zones (k + 1)) (sym equal) (listed_past pattern_order IsPattern (rules_in kind) zones k new.0 (λ p n. has_zone (zones_by_key (pattern_key p) entries) n) new.1 no_rule before)

  -- all zones
  pub names_all : (zones : PlainZones) (k : ℕ) (entries last : List (OctetFound ℕ Bool)) → last ≡ entries → length zones ≤ k → NamesTo kind zones k entries
      → (t : PlainSummary PlainPattern) (having : ℕ) → ZonesHave kind zones having → t.having ≡ having
      → ((p : PlainPattern) → IsKey p → zones_at pattern_order p t.triggers ≡ zones_by_key (pattern_key p) last) → KnowsPatterns kind zones t
  names_all zones k entries last equal all listed t having have is at =
      names_from zones t entries (subst (ZonesHave kind zones) (sym is) have) (λ p is_p. at p is_p ∙ ap (zones_by_key (pattern_key p)) equal)
      (listed_all pattern_order IsPattern (rules_in kind) zones k (λ p n. has_zone (zones_by_key (pattern_key p) entries) n) all listed)
