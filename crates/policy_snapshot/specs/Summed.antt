-- Which zones may have a rule that is hit at a position of the chain of aliases, as the summaries of the kinds tell it.
use Rattle.std.specs.Prelude.{ℕ, ◌==◌, Bool, false, ◌&&◌, ◌||◌, [], Option, Some, None}
use Rattle.std.specs.List.{AllByRecursion, list_any}
use Rattle.dns_name.specs.Alike.{PlainPattern, matches, same_name}
use Rattle.dns_name.specs.Labels.{Name}
use Rattle.dns_record.specs.Address.{address_in}
use Rattle.dns_record.specs.Record.{PlainRecord}
use Rattle.ip_prefix.specs.declared.Addr.{Addr}
use Rattle.ip_prefix.specs.Prefix.{PlainPrefix, contains, prefix_order}
use Rattle.qname_index.specs.Best.{pattern_order}
use Rattle.qname_index.specs.Index.{IsKey}
use Rattle.trigger_codec.specs.Bases.{IsPattern}
use Rattle.trigger_codec.specs.declared.by_kind.ByKind.{ByKind}
use Rattle.summary_index.specs.Knowing.{Knows}
use Rattle.summary_index.specs.Summary.{PlainSummary, may_fit}
use Rattle.zone_index.specs.Kinds.{PlainRules}
use Rattle.zone_index.specs.Rules.{rules_of}
use Rattle.zone_rows.specs.declared.zone.Content.{Content}
use Rattle.policy_snapshot.specs.Sight.{PlainSight}

-- the summaries of the five kinds
abbrev pub PlainSummaries : Type 0
PlainSummaries = ByKind (PlainSummary PlainPrefix) (PlainSummary PlainPattern)

-- the zone of this number may have a rule whose prefix contains the address; whose pattern matches the name
abbrev pub may_contain : PlainSummary PlainPrefix → ℕ → Addr → Bool
may_contain s number addr = may_fit (λ p. contains p addr) s number

abbrev pub may_match : PlainSummary PlainPattern → ℕ → Name → Bool
may_match s number name = may_fit (λ p. matches p name) s number

abbrev pub may_hold : PlainSummary PlainPrefix → ℕ → Option Addr → Bool
may_hold s number None = false
may_hold s number (Some addr) = may_contain s number addr

-- it may have one about an address that the record holds for the name
abbrev pub may_be_about : PlainSummary PlainPrefix → ℕ → Name → PlainRecord → Bool
may_be_about s number name r = same_name r.owner name && may_hold s number (address_in r)

-- it may have one about the client, which counts at the name of the query alone
abbrev pub may_be_client : PlainSummary PlainPrefix → ℕ → ℕ → Addr → Bool
may_be_client s number position addr = position == 0 && may_contain s number addr

-- the zone of this number may have a rule that is hit
abbrev pub is_candidate : PlainSummaries → PlainSight → ℕ → Bool
is_candidate s sight number =
    may_be_client s.client_ip number sight.position sight.client
    || (may_match s.qname number sight.name
    || (list_any (may_be_about s.response_ip number sight.name) sight.records
    || (list_any (list_any (may_match s.nsdname number)) sight.servers
    || list_any (may_contain s.nsip number) sight.addresses)))

-- each prefix is valid
abbrev pub AnyPrefix : PlainPrefix → Type 0
AnyPrefix prefix = Unit {0}

-- the rules of a zone of this origin and content; none where nothing is loaded
abbrev pub content_entries : Name → Option Content → PlainRules
content_entries origin None =
    record { client_ip = []; qname = []; response_ip = []; nsdname = []; nsip = [] }
content_entries origin (Some content) = rules_of origin content.rows

-- what the summaries know of the rules of the zone of this number
pub record KnowsZone (number : ℕ) (rules : PlainRules) (s : PlainSummaries) : Type 0 where
  pub client_ip : Knows prefix_order AnyPrefix number rules.client_ip s.client_ip
  pub qname : Knows pattern_order IsPattern number rules.qname s.qname
  pub response_ip : Knows prefix_order AnyPrefix number rules.response_ip s.response_ip
  pub nsdname : Knows pattern_order IsPattern number rules.nsdname s.nsdname
  pub nsip : Knows prefix_order AnyPrefix number rules.nsip s.nsip

-- the patterns of the summaries are of names in lower case
pub record AreOfNames (s : PlainSummaries) : Type 0 where
  pub qname : AllByRecursion (λ e. IsKey e.0) s.qname.triggers
  pub nsdname : AllByRecursion (λ e. IsKey e.0) s.nsdname.triggers
