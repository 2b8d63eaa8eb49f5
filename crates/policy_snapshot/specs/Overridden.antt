-- What the operator's override of a zone makes of the actions of its rules.
use Rattle.std.specs.Prelude.{[], ◌∷◌, Option, Some, None}
use Rattle.std.specs.Option.{unwrap_or}
use Rattle.dns_name.specs.Labels.{name_octets}
use Rattle.dns_record.specs.Record.{PlainRecord}
use Rattle.dns_record.specs.declared.rtype.TheConstants.{CNAME}
use Rattle.action_codec.specs.declared.action.Action.{Action}
use Rattle.action_codec.specs.declared.action.Action.TheVariants as actions
use Rattle.policy_override.specs.declared.overrides.Override.{Override}
use Rattle.policy_override.specs.declared.overrides.Override.TheVariants as overrides

-- The action that an override puts into the place of that of each rule of a zone of this SOA record; none where the rules keep
-- their own. An alias is one CNAME record to the target as it was given, with the TTL of the zone's SOA record.
abbrev pub override_action : Override → PlainRecord → Option Action
override_action overrides.Given soa = None
override_action overrides.Disabled soa = None
override_action overrides.NxDomain soa = Some actions.NxDomain
override_action overrides.NoData soa = Some actions.NoData
override_action overrides.PassThru soa = Some actions.PassThru
override_action overrides.Drop soa = Some actions.Drop
override_action overrides.TcpOnly soa = Some actions.TcpOnly
override_action (overrides.Cname target) soa =
    Some (actions.Local (record { rtype = CNAME; ttl = soa.ttl; rdata = name_octets target } ∷ []))

-- the action of a rule under an override
abbrev pub action_under : Override → PlainRecord → Action → Action
action_under over soa action = unwrap_or (override_action over soa) action
