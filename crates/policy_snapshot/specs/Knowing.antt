-- What the summaries of the kinds know of the zones of a policy.
use Rattle.std.specs.Prelude.{◌≡◌, ◌≤◌, ℕ, Some}
use Rattle.trigger_codec.specs.declared.trigger.Kind.{Kind}
use Rattle.trigger_codec.specs.declared.trigger.Kind.TheVariants as kinds
use Rattle.summary_index.specs.Summary.{no_rules}
use Rattle.zone_rows.specs.declared.zone.PlainZone.{PlainZone}
use Rattle.policy_snapshot.specs.Policy.{PlainZones, zone_at}
use Rattle.policy_snapshot.specs.Summed.{KnowsZone, PlainSummaries, content_entries}
use Rattle.zone_rows.specs.declared.zone.TheConstants.{ZONE_LIMIT}

-- no zone has rules
abbrev pub no_summaries : PlainSummaries
no_summaries = record {
  client_ip = no_rules;
  qname = no_rules;
  response_ip = no_rules;
  nsdname = no_rules;
  nsip = no_rules;
}

-- the zones that have rules of a kind
abbrev pub zones_having : PlainSummaries → Kind → ℕ
zones_having s kinds.ClientIp = s.client_ip.having
zones_having s kinds.Qname = s.qname.having
zones_having s kinds.ResponseIp = s.response_ip.having
zones_having s kinds.NsDname = s.nsdname.having
zones_having s kinds.NsIp = s.nsip.having

-- The summaries know the rules of each zone of the policy, whose number is from 1 to 64.
pub record KnowsAll (zones : PlainZones) (s : PlainSummaries) : Type 0 where
  pub each : (n : ℕ) (zone : PlainZone) → 1 ≤ n → n ≤ ZONE_LIMIT → zone_at zones n ≡ Some zone →
      KnowsZone n (content_entries zone.origin zone.content) s
