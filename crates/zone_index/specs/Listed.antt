-- The rules of a zone as one list: what a reader must believe of them (draft-vixie-dnsop-dns-rpz, sections 3 to 5).
use Rattle.std.specs.Prelude.{Bool, false, List, [], ◌∷◌, ◌++◌, map, filter, flat_map, Option, Some, None}
use Rattle.std.specs.BTreeMap.{is_at}
use Rattle.dns_name.specs.Labels.{Name}
use Rattle.ip_prefix.specs.Prefix.{prefix_order}
use Rattle.qname_index.specs.Best.{pattern_order}
use Rattle.trigger_codec.specs.declared.trigger.Trigger.{Trigger}
use Rattle.trigger_codec.specs.declared.trigger.Trigger.TheVariants.{ClientIp, Qname, ResponseIp, NsDname, NsIp}
use Rattle.dns_record.specs.Row.{PlainRow}
use Rattle.action_codec.specs.Action.{action_by}
use Rattle.action_codec.specs.declared.action.Action.{Action}
use Rattle.zone_index.specs.Kinds.{PlainRules}
use Rattle.zone_index.specs.Rules.{live_trigger}

-- the triggers are of one kind, and neither comes before the other
abbrev pub is_same : Trigger → Trigger → Bool
is_same (ClientIp p) (ClientIp q) = is_at (prefix_order p) q
is_same (Qname p) (Qname q) = is_at (pattern_order p) q
is_same (ResponseIp p) (ResponseIp q) = is_at (prefix_order p) q
is_same (NsDname p) (NsDname q) = is_at (pattern_order p) q
is_same (NsIp p) (NsIp q) = is_at (prefix_order p) q
is_same t u = false

-- whether a row with this trigger is one of the trigger `t`; `None` stands for a row that isn't live
abbrev pub is_of : Trigger → Option Trigger → Bool
is_of t None = false
is_of t (Some u) = is_same t u

-- the live rows of a trigger, in the order of the zone
abbrev pub rows_of : Name → List PlainRow → Trigger → List PlainRow
rows_of origin rows t = filter (λ row. is_of t (live_trigger origin row)) rows

-- the rule of a trigger, unless its rows do nothing
abbrev pub rule_if : Trigger → Option Action → List (Trigger × Action)
rule_if t None = []
rule_if t (Some action) = (t, action) ∷ []

-- the rule of a live row: that of its trigger, which does what all live rows of this trigger do
abbrev pub row_rule : Name → List PlainRow → Option Trigger → List (Trigger × Action)
row_rule origin rows None = []
row_rule origin rows (Some t) = rule_if t (action_by t (rows_of origin rows t))

-- All rules of a zone of this origin and these rows, each trigger with its action: the rule of each live row. A rule of
-- several rows stands here once for each.
abbrev pub zone_rules : Name → List PlainRow → List (Trigger × Action)
zone_rules origin rows = flat_map (λ row. row_rule origin rows (live_trigger origin row)) rows

-- the entries of a map of one kind, with their triggers
abbrev pub with_triggers : {K : Type 0} → (K → Trigger) → List (K × Action) →
    List (Trigger × Action)
with_triggers kind entries = map (λ e. (kind e.0, e.1)) entries

-- the rules of an index as one list, kind by kind
abbrev pub rules_by_kind : PlainRules → List (Trigger × Action)
rules_by_kind rules =
    with_triggers ClientIp rules.client_ip
    ++ (with_triggers Qname rules.qname
    ++ (with_triggers ResponseIp rules.response_ip
    ++ (with_triggers NsDname rules.nsdname
    ++ with_triggers NsIp rules.nsip)))
