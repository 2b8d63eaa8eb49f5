-- All rules of a policy as one list (draft-vixie-dnsop-dns-rpz, sections 3 to 5).
use Rattle.std.specs.Prelude.{◌≡◌, ℕ, ◌+◌, true, if◌then◌else◌, List, [], ◌∷◌, ◌++◌, map, Option, Some, None}
use Rattle.std.specs.List.{Contains}
use Rattle.dns_name.specs.Labels.{Name}
use Rattle.dns_record.specs.Record.{PlainRecord}
use Rattle.dns_record.specs.Soa.{soa_record}
use Rattle.zone_rows.specs.declared.zone.Content.{Content}
use Rattle.zone_rows.specs.declared.zone.PlainZone.{PlainZone}
use Rattle.trigger_codec.specs.declared.trigger.Trigger.{Trigger}
use Rattle.action_codec.specs.declared.action.Action.{Action}
use Rattle.zone_index.specs.Listed.{zone_rules}
use Rattle.policy_override.specs.declared.overrides.Override.{Override}
use Rattle.policy_override.specs.Override.{is_ruling}
use Rattle.policy_override.specs.Overrides.{over_at}
use Rattle.policy_snapshot.specs.Overridden.{action_under}
use Rattle.policy_snapshot.specs.Policy.{PlainPolicy, PlainZones, zone_at}

-- A rule: the number of its zone, its trigger, what it does, and the SOA record of its zone, which replies by it carry.
pub record PlainRule : Type 0 where
  pub zone : ℕ
  pub trigger : Trigger
  pub action : Action
  pub soa : PlainRecord

-- the rules of a zone of this number, origin and content; none where nothing is loaded
abbrev pub content_rules : ℕ → Name → Option Content → List PlainRule
content_rules number origin None = []
content_rules number origin (Some content) =
    map (λ r.
    record { zone = number; trigger = r.0; action = r.1; soa = soa_record origin content.soa })
    (zone_rules origin content.rows)

-- the rule under an override: its trigger stays, and its action is the override's where that has one
abbrev pub rule_under : Override → PlainRule → PlainRule
rule_under over rule =
    record {
      zone = rule.zone;
      trigger = rule.trigger;
      action = action_under over rule.soa rule.action;
      soa = rule.soa;
    }

-- the rules of a zone under an override: none where it is disabled
abbrev pub rules_under : Override → List PlainRule → List PlainRule
rules_under over own = if is_ruling over then map (rule_under over) own else []

-- the rules of zones that are numbered from this number on
abbrev pub rules_from : List Override → ℕ → PlainZones → List PlainRule
rules_from overrides number [] = []
rules_from overrides number (zone ∷ zones) =
    rules_under (over_at overrides number) (content_rules number zone.origin zone.content)
    ++ rules_from overrides (number + 1) zones

-- All rules of a policy.
abbrev pub rules : PlainPolicy → List PlainRule
rules policy = rules_from policy.overrides 1 policy.zones

-- What a rule of a policy is, apart from the list: a rule of its zone, which isn't disabled, under the zone's override.
pub record IsRuleOf (policy : PlainPolicy) (rule : PlainRule) : Type 0 where
  pub zone : PlainZone
  pub own : PlainRule
  pub there : zone_at policy.zones rule.zone ≡ Some zone
  pub ruling : is_ruling (over_at policy.overrides rule.zone) ≡ true
  pub within : Contains (content_rules rule.zone zone.origin zone.content) own
  pub is : rule_under (over_at policy.overrides rule.zone) own ≡ rule
