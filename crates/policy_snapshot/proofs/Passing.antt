-- A zone that is no candidate has no rule that is hit.
use Rattle.std.proofs.Common.{◌≡◌, ℕ, ◌==◌, Bool, true, false, cond, fold, ◌||◌, ◌&&◌, ◌↔◌, Option, Some, None, List, [], ◌∷◌, refl, ap, ◌∙◌, true≢false}
use Rattle.std.specs.Prelude.{All, IsTrue}
use Rattle.std.specs.Option.{option_map}
use Rattle.std.specs.BTreeMap.{is_at}
use Rattle.std.specs.Cmp.{IsTotalOrder, on_total}
use Rattle.std.specs.List.{AllByRecursion, find, list_any}
use Rattle.std.specs.Map.{keys_of}
use Rattle.dns_name.specs.Alike.{PlainPattern, matches, same_name}
use Rattle.dns_name.specs.Labels.{Name}
use Rattle.dns_record.specs.Address.{address_in}
use Rattle.dns_record.specs.Record.{PlainRecord}
use Rattle.dns_record.specs.Row.{IsRow, PlainRow}
use Rattle.dns_record.specs.Soa.{soa_record}
use Rattle.ip_prefix.specs.declared.Addr.{Addr}
use Rattle.ip_prefix.specs.Prefix.{PlainPrefix, contains, prefix_order}
use Rattle.prefix_index.proofs.Order.{prefix_order_total}
use Rattle.qname_index.specs.Best.{pattern_order}
use Rattle.qname_index.specs.Index.{IsKey}
use Rattle.qname_index.proofs.Rank.{rank_of, rank_total}
use Rattle.trigger_codec.specs.Bases.{IsPattern, IsTrigger}
use Rattle.trigger_codec.specs.declared.trigger.Trigger.{Trigger}
use Rattle.trigger_codec.specs.declared.trigger.Trigger.TheVariants.{ClientIp, Qname, ResponseIp, NsDname, NsIp}
use Rattle.action_codec.specs.declared.action.Action.{Action}
use Rattle.summary_index.specs.Knowing.{Knows}
use Rattle.summary_index.proofs.Fitting.{none_fits}
use Rattle.summary_index.specs.Summary.{PlainSummary, Standing}
use Rattle.zone_index.specs.Addresses.{holds_within, is_held}
use Rattle.zone_index.specs.Indexed.{HasRows}
use Rattle.zone_index.specs.Kinds.{PlainRules}
use Rattle.zone_index.specs.Laws.{AreNamed}
use Rattle.zone_index.specs.Listed.{is_same}
use Rattle.zone_index.specs.Rules.{rules_of}
use Rattle.zone_rows.specs.declared.zone.Content.{Content}
use Rattle.zone_rows.specs.declared.zone.PlainZone.{PlainZone}
use Rattle.rpz_precedence.specs.Best.{PlainHit}
use Rattle.policy_snapshot.specs.Lookup.{address_hit, best_over, better, client_hit, content_hit, entry_hit, index_hit, or_hit, server_hit, zone_hit}
use Rattle.policy_snapshot.specs.Sight.{PlainSight}
use Rattle.policy_snapshot.specs.Summed.{AnyPrefix, AreOfNames, KnowsZone, PlainSummaries, content_entries, is_candidate, may_be_about, may_be_client, may_contain, may_hold, may_match}

-- ---- tests

neither : (a b : Bool) → (a || b) ≡ false → (a ≡ false) × (b ≡ false)
neither true b h = absurd (true≢false h)
neither false b h = (refl, h)

find_none : {X : Type 0} (p : X → Bool) (xs : List X) → list_any p xs ≡ false → find p xs ≡ None
find_none p [] none = refl
find_none p (x ∷ xs) none =
    let no = neither (p x) (list_any p xs) none in
    ap (λ (b : Bool). cond b (Some x) (find p xs)) no.0 ∙ find_none p xs no.1

-- what look-ups of some list find, where each finds nothing
none_over : {X : Type 0} (may : X → Bool) (look : X → Option PlainHit) → ((x : X) → may x ≡ false → look x ≡ None) → (xs : List X) → list_any may xs ≡ false → best_over look xs ≡ None
none_over may look empty [] none = refl
none_over may look empty (x ∷ xs) none =
    let no = neither (may x) (list_any may xs) none in
    ap (λ (found : Option PlainHit). fold (λ before y. better before (look y)) found xs) (empty x no.0) ∙ none_over may look empty xs no.1

module _ {A : Type 0} where
  -- an entry passes the test of some record where some record's test passes an entry
  any_either : {R : Type 0} (p : A → R → Bool) (r : R) (rs : List R) (es : List A) → list_any (λ e. p e r) es ≡ false → list_any (λ e. list_any (p e) rs) es ≡ false → list_any (λ e. p e r || list_any (p e) rs) es ≡ false
  any_either p r rs [] one others = refl
  any_either p r rs (e ∷ es) one others =
      let first = neither (p e r) (list_any (λ x. p x r) es) one in
      let rest = neither (list_any (p e) rs) (list_any (λ x. list_any (p x) rs) es) others in
      (λ i. (first.0 i || rest.0 i) || any_either p r rs es first.1 rest.1 i)

  none_any : (es : List A) → list_any (λ e. false) es ≡ false
  none_any [] = refl
  none_any (e ∷ es) = none_any es

-- ---- keys

-- What lower crates say of triggers: those of one place are equal, and the patterns of a zone's rules are of names in lower case.
pub record KeyLaws : Type 0 where
  pub same : (t u : Trigger) → IsTrigger t → IsTrigger u → IsTrue (is_same t u) ↔ (t ≡ u)
  pub named : (origin : Name) (rows : List PlainRow) → All IsRow rows → AreNamed (rules_of origin rows)

pattern_total : IsTotalOrder pattern_order
pattern_total = on_total rank_of rank_total

pattern_of : (a b : PlainPattern) → Qname a ≡ Qname b → a ≡ b
pattern_of a b e = cc e

prefix_of : (a b : PlainPrefix) → ClientIp a ≡ ClientIp b → a ≡ b
prefix_of a b e = cc e

same_pattern : KeyLaws → (a b : PlainPattern) → IsPattern a → IsPattern b → is_at (pattern_order a) b ≡ true → a ≡ b
same_pattern laws a b is other at = pattern_of a b ((laws.same (Qname a) (Qname b) is other).0 at)

same_prefix : KeyLaws → (a b : PlainPrefix) → AnyPrefix a → AnyPrefix b → is_at (prefix_order a) b ≡ true → a ≡ b
same_prefix laws a b is other at = prefix_of a b ((laws.same (ClientIp a) (ClientIp b) tt tt).0 at)

-- the patterns are of names in lower case
abbrev Patterns : {X : Type 0} → List (PlainPattern × X) → Type 0
Patterns es = AllByRecursion (λ e. IsPattern e.0) es

patterns_by : {X : Type 0} (es : List (PlainPattern × X)) → AllByRecursion IsPattern (keys_of es) → Patterns es
patterns_by [] all = tt
patterns_by (e ∷ es) all = (all.0, patterns_by es all.1)

-- those of a trie are
patterns_in : (es : List (PlainPattern × Standing)) → AllByRecursion (λ e. IsKey e.0) es → Patterns es
patterns_in [] all = tt
patterns_in (e ∷ es) all = (record { is_base = all.0.name; is_lower_case = all.0.lower_case }, patterns_in es all.1)

any_prefixes : {X : Type 0} (es : List (PlainPrefix × X)) → AllByRecursion (λ e. AnyPrefix e.0) es
any_prefixes [] = tt
any_prefixes (e ∷ es) = (tt, any_prefixes es)

-- ---- the kinds

module _ (laws : KeyLaws) where
  no_match : (n : ℕ) (rules : List (PlainPattern × Action)) (s : PlainSummary PlainPattern) → Patterns s.triggers → Patterns rules → Knows pattern_order IsPattern n rules s
      → (name : Name) → may_match s n name ≡ false → find (λ e. matches e.0 name) rules ≡ None
  no_match n rules s triggers are knows name none =
      find_none (λ e. matches e.0 name) rules (none_fits pattern_order pattern_total IsPattern (same_pattern laws) (λ p. matches p name) n rules s triggers are knows none)

  no_prefix : (n : ℕ) (rules : List (PlainPrefix × Action)) (s : PlainSummary PlainPrefix) → Knows prefix_order AnyPrefix n rules s
      → (addr : Addr) → may_contain s n addr ≡ false → list_any (λ e. contains e.0 addr) rules ≡ false
  no_prefix n rules s knows addr none =
      none_fits prefix_order prefix_order_total AnyPrefix (same_prefix laws) (λ p. contains p addr) n rules s (any_prefixes s.triggers) (any_prefixes rules) knows none

  held : (n : ℕ) (rules : List (PlainPrefix × Action)) (s : PlainSummary PlainPrefix) → Knows prefix_order AnyPrefix n rules s
      → (addr : Option Addr) → may_hold s n addr ≡ false → list_any (λ e. is_held e.0 addr) rules ≡ false
  held n rules s knows None none = none_any rules
  held n rules s knows (Some addr) none = no_prefix n rules s knows addr none

  about_by : (n : ℕ) (rules : List (PlainPrefix × Action)) (s : PlainSummary PlainPrefix) → Knows prefix_order AnyPrefix n rules s
      → (b : Bool) (addr : Option Addr) → (b && may_hold s n addr) ≡ false → list_any (λ e. b && is_held e.0 addr) rules ≡ false
  about_by n rules s knows true addr none = held n rules s knows addr none
  about_by n rules s knows false addr none = none_any rules

  no_about : (n : ℕ) (rules : List (PlainPrefix × Action)) (s : PlainSummary PlainPrefix) → Knows prefix_order AnyPrefix n rules s
      → (name : Name) (records : List PlainRecord) → list_any (may_be_about s n name) records ≡ false → list_any (λ e. list_any (holds_within e.0 name) records) rules ≡ false
  no_about n rules s knows name [] none = none_any rules
  no_about n rules s knows name (r ∷ records) none =
      let no = neither (may_be_about s n name r) (list_any (may_be_about s n name) records) none in
      any_either (λ e. holds_within e.0 name) r records rules
      (about_by n rules s knows (same_name r.owner name) (address_in r) no.0)
      (no_about n rules s knows name records no.1)

  client_none : (b : Bool) (may : Bool) (found : Option (PlainPrefix × Action)) (f : PlainPrefix × Action → PlainHit) → (b && may) ≡ false → (may ≡ false → found ≡ None)
      → cond b (option_map f found) None ≡ None
  client_none true may found f none empty = ap (option_map f) (empty none)
  client_none false may found f none empty = refl

  -- no rule is hit
  pub none_hit : (n : ℕ) (soa : PlainRecord) (sight : PlainSight) (rules : PlainRules) (s : PlainSummaries) → AreOfNames s → Patterns rules.qname → Patterns rules.nsdname → KnowsZone n rules s
      → is_candidate s sight n ≡ false → index_hit n soa sight rules ≡ None
  none_hit n soa sight rules s names qnames nsdnames knows none =
      let client = neither (may_be_client s.client_ip n sight.position sight.client) _ none in
      let qname = neither (may_match s.qname n sight.name) _ client.1 in
      let response = neither (list_any (may_be_about s.response_ip n sight.name) sight.records) _ qname.1 in
      let servers = neither (list_any (list_any (may_match s.nsdname n)) sight.servers) _ response.1 in
      let no_client : client_hit n soa sight rules ≡ None =
      client_none (sight.position == 0) (may_contain s.client_ip n sight.client) (find (λ e. contains e.0 sight.client) rules.client_ip) (entry_hit ClientIp sight.position n soa) client.0
      (λ h. find_none (λ e. contains e.0 sight.client) rules.client_ip (no_prefix n rules.client_ip s.client_ip knows.client_ip sight.client h)) in
      let no_qname = no_match n rules.qname s.qname (patterns_in s.qname.triggers names.qname) qnames knows.qname sight.name qname.0 in
      let no_response = find_none (λ e. list_any (holds_within e.0 sight.name) sight.records) rules.response_ip (no_about n rules.response_ip s.response_ip knows.response_ip sight.name sight.records response.0) in
      let no_servers =
      none_over (list_any (may_match s.nsdname n)) (best_over (server_hit sight.position n soa rules))
      (λ list h. none_over (may_match s.nsdname n) (server_hit sight.position n soa rules)
      (λ server k. ap (option_map (entry_hit NsDname sight.position n soa)) (no_match n rules.nsdname s.nsdname (patterns_in s.nsdname.triggers names.nsdname) nsdnames knows.nsdname server k)) list h) sight.servers servers.0 in
      let no_addresses =
      none_over (may_contain s.nsip n) (address_hit sight.position n soa rules)
      (λ addr h. ap (option_map (entry_hit NsIp sight.position n soa)) (find_none (λ e. contains e.0 addr) rules.nsip (no_prefix n rules.nsip s.nsip knows.nsip addr h))) sight.addresses servers.1 in
      (λ i. or_hit (no_client i) (or_hit (option_map (entry_hit Qname sight.position n soa) (no_qname i)) (or_hit (option_map (entry_hit ResponseIp sight.position n soa) (no_response i)) (or_hit (no_servers i) (no_addresses i)))))

  none_in : (n : ℕ) (sight : PlainSight) (origin : Name) (content : Option Content) (s : PlainSummaries) → AreOfNames s → HasRows content → KnowsZone n (content_entries origin content) s
      → is_candidate s sight n ≡ false → content_hit n sight origin content ≡ None
  none_in n sight origin None s names rows knows none = refl
  none_in n sight origin (Some content) s names rows knows none =
      let rules = rules_of origin content.rows in
      let named = laws.named origin content.rows rows in
      none_hit n (soa_record origin content.soa) sight rules s names (patterns_by rules.qname named.qname) (patterns_by rules.nsdname named.nsdname) knows none

  -- a zone that is no candidate has no hit
  pub passed_over : (n : ℕ) (sight : PlainSight) (zone : PlainZone) (s : PlainSummaries) → AreOfNames s → HasRows zone.content → KnowsZone n (content_entries zone.origin zone.content) s
      → is_candidate s sight n ≡ false → zone_hit n sight zone ≡ None
  passed_over n sight zone s names rows knows none = none_in n sight zone.origin zone.content s names rows knows none
