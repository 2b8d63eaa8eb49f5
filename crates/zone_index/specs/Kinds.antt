-- What stands at the triggers of a zone, for each kind of trigger in order of precedence.
use Rattle.std.specs.Prelude.{Bool, List}
use Rattle.dns_name.specs.Alike.{PlainPattern}
use Rattle.ip_prefix.specs.Prefix.{PlainPrefix}
use Rattle.trigger_codec.specs.declared.trigger.Kind.{Kind}
use Rattle.trigger_codec.specs.declared.trigger.Kind.TheVariants as kinds
use Rattle.dns_record.specs.Row.{PlainRow}
use Rattle.action_codec.specs.declared.action.Action.{Action}
use Rattle.zone_index.specs.Addresses.{has_some}
use Rattle.trigger_codec.specs.declared.by_kind.ByKind.{ByKind}

-- rows
abbrev pub PlainGroups : Type 0
PlainGroups = ByKind (List (PlainPrefix × List PlainRow)) (List (PlainPattern × List PlainRow))

-- The rules of each kind of trigger with their actions, in order of precedence.
abbrev pub PlainRules : Type 0
PlainRules = ByKind (List (PlainPrefix × Action)) (List (PlainPattern × Action))

-- there is a rule of this kind
abbrev pub has_kind : PlainRules → Kind → Bool
has_kind rules kinds.ClientIp = has_some rules.client_ip
has_kind rules kinds.Qname = has_some rules.qname
has_kind rules kinds.ResponseIp = has_some rules.response_ip
has_kind rules kinds.NsDname = has_some rules.nsdname
has_kind rules kinds.NsIp = has_some rules.nsip
