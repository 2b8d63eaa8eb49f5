-- The rules of a zone: its live rows by trigger, and what the rows of each trigger do (draft-vixie-dnsop-dns-rpz, sections 3 to 5).
use Rattle.std.specs.Prelude.{Bool, if◌then◌else◌, List, [], ◌∷◌, ◌++◌, fold, Option, Some, None, Result, Ok, Err}
use Rattle.std.specs.BTreeMap.{insert_entry, is_at}
use Rattle.std.specs.Map.{lookup, remove_entry}
use Rattle.std.specs.declared.cmp.Ordering.{Ordering}
use Rattle.dns_name.specs.Labels.{Name}
use Rattle.dns_name.specs.Alike.{PlainPattern}
use Rattle.ip_prefix.specs.Prefix.{prefix_order}
use Rattle.qname_index.specs.Best.{pattern_order}
use Rattle.trigger_codec.specs.Decode.{trigger}
use Rattle.trigger_codec.specs.declared.inert.Inert.{Inert}
use Rattle.trigger_codec.specs.declared.trigger.Trigger.{Trigger}
use Rattle.trigger_codec.specs.declared.trigger.Trigger.TheVariants.{ClientIp, Qname, ResponseIp, NsDname, NsIp}
use Rattle.dns_record.specs.Row.{PlainRow}
use Rattle.action_codec.specs.Action.{is_live_type, action_for}
use Rattle.action_codec.specs.declared.action.Action.{Action}
use Rattle.zone_index.specs.Kinds.{PlainGroups, PlainRules}

abbrev pub some_trigger : Result Trigger Inert → Option Trigger
some_trigger (Ok t) = Some t
some_trigger (Err inert) = None

-- the trigger of a row that is live: its type makes rules, and its owner names a trigger
abbrev pub live_trigger : Name → PlainRow → Option Trigger
live_trigger origin row =
    if is_live_type row.rtype then some_trigger (trigger row.owner origin) else None

abbrev pub rows_in : Option (List PlainRow) → List PlainRow
rows_in None = []
rows_in (Some rows) = rows

-- the row behind those of its trigger
abbrev pub with_row : {K : Type 0} → (K → K → Ordering) → List (K × List PlainRow) → K → PlainRow →
    List (K × List PlainRow)
with_row order groups key row =
    insert_entry order (remove_entry (is_at (order key)) groups) key
    (rows_in (lookup (is_at (order key)) groups) ++ row ∷ [])

abbrev pub no_groups : PlainGroups
no_groups = record { client_ip = []; qname = []; response_ip = []; nsdname = []; nsip = [] }

abbrev pub put_row : PlainGroups → PlainRow → Trigger → PlainGroups
put_row groups row (ClientIp prefix) =
    record groups { client_ip = with_row prefix_order groups.client_ip prefix row }
put_row groups row (Qname pattern) =
    record groups { qname = with_row pattern_order groups.qname pattern row }
put_row groups row (ResponseIp prefix) =
    record groups { response_ip = with_row prefix_order groups.response_ip prefix row }
put_row groups row (NsDname pattern) =
    record groups { nsdname = with_row pattern_order groups.nsdname pattern row }
put_row groups row (NsIp prefix) =
    record groups { nsip = with_row prefix_order groups.nsip prefix row }

abbrev pub put_live : PlainGroups → PlainRow → Option Trigger → PlainGroups
put_live groups row None = groups
put_live groups row (Some t) = put_row groups row t

-- the live rows by trigger, those of one trigger in the order of the zone
abbrev pub groups_of : Name → List PlainRow → PlainGroups
groups_of origin rows =
    fold (λ groups row. put_live groups row (live_trigger origin row)) no_groups rows

abbrev pub put_rule : {K : Type 0} → (K → K → Ordering) → List (K × Action) → K → Option Action →
    List (K × Action)
put_rule order rules key None = rules
put_rule order rules key (Some action) = insert_entry order rules key action

-- the rule of a group, if it does something; `own` gives the pattern of its own of a rule about names that are asked for
abbrev pub with_rule : {K : Type 0} → (K → K → Ordering) → (K → Option PlainPattern) →
    List (K × Action) → K × List PlainRow → List (K × Action)
with_rule order own rules group = put_rule order rules group.0 (action_for (own group.0) group.1)

-- the rules of the groups of one kind
abbrev pub rules_by : {K : Type 0} → (K → K → Ordering) → (K → Option PlainPattern) →
    List (K × List PlainRow) → List (K × Action)
rules_by order own groups = fold (with_rule order own) [] groups

-- the pattern, if it is the rule's own
abbrev pub own_if : Bool → PlainPattern → Option PlainPattern
own_if has_own pattern = if has_own then Some pattern else None

abbrev pub rules_in : PlainGroups → PlainRules
rules_in groups = record {
  client_ip = rules_by prefix_order (λ _. None) groups.client_ip;
  qname = rules_by pattern_order (λ pattern. Some pattern) groups.qname;
  response_ip = rules_by prefix_order (λ _. None) groups.response_ip;
  nsdname = rules_by pattern_order (λ _. None) groups.nsdname;
  nsip = rules_by prefix_order (λ _. None) groups.nsip;
}

-- The rules of a zone of this origin and these rows.
abbrev pub rules_of : Name → List PlainRow → PlainRules
rules_of origin rows = rules_in (groups_of origin rows)
