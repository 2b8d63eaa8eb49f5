-- What the laws of the rules of a zone say.
use Rattle.std.specs.Prelude.{Option}
use Rattle.std.specs.BTreeMap.{is_at}
use Rattle.std.specs.List.{AllByRecursion}
use Rattle.std.specs.List.Sorted.{IsStrictlySortedBy}
use Rattle.std.specs.Map.{keys_of, lookup}
use Rattle.ip_prefix.specs.Prefix.{prefix_order}
use Rattle.qname_index.specs.Best.{pattern_order}
use Rattle.trigger_codec.specs.Bases.{IsPattern}
use Rattle.trigger_codec.specs.declared.trigger.Trigger.{Trigger}
use Rattle.trigger_codec.specs.declared.trigger.Trigger.TheVariants.{ClientIp, Qname, ResponseIp, NsDname, NsIp}
use Rattle.action_codec.specs.declared.action.Action.{Action}
use Rattle.zone_index.specs.Kinds.{PlainRules}

-- what the rules do at a trigger, if they have one for it
abbrev pub rule_at : PlainRules → Trigger → Option Action
rule_at rules (ClientIp prefix) = lookup (is_at (prefix_order prefix)) rules.client_ip
rule_at rules (Qname pattern) = lookup (is_at (pattern_order pattern)) rules.qname
rule_at rules (ResponseIp prefix) = lookup (is_at (prefix_order prefix)) rules.response_ip
rule_at rules (NsDname pattern) = lookup (is_at (pattern_order pattern)) rules.nsdname
rule_at rules (NsIp prefix) = lookup (is_at (prefix_order prefix)) rules.nsip

-- the triggers of each kind stand in order of precedence, each once
pub record IsInOrder (rules : PlainRules) : Type 0 where
  pub client_ip : IsStrictlySortedBy prefix_order (keys_of rules.client_ip)
  pub qname : IsStrictlySortedBy pattern_order (keys_of rules.qname)
  pub response_ip : IsStrictlySortedBy prefix_order (keys_of rules.response_ip)
  pub nsdname : IsStrictlySortedBy pattern_order (keys_of rules.nsdname)
  pub nsip : IsStrictlySortedBy prefix_order (keys_of rules.nsip)

-- the patterns of the rules are of names in lower case
pub record AreNamed (rules : PlainRules) : Type 0 where
  pub qname : AllByRecursion IsPattern (keys_of rules.qname)
  pub nsdname : AllByRecursion IsPattern (keys_of rules.nsdname)
