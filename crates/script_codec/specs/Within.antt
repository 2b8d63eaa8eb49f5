-- What holds of a line that is read, by the state that it is read by.
use Rattle.std.specs.Prelude.{◌≡◌, ℕ, ◌≤◌, ◌<◌, true, false, List, length, Option, Some, None}
use Rattle.dns_name.specs.Labels.{IsName, Name}
use Rattle.ip_prefix.specs.Prefix.{PlainPrefix}
use Rattle.networks.specs.declared.allow_list.TheConstants.{NETWORK_LIMIT}
use Rattle.networks.specs.Allowed.{has_network}
use Rattle.networks.specs.Network.{IsNetwork}
use Rattle.zone_rows.specs.declared.zone.TheConstants.{ZONE_LIMIT}
use Rattle.script_codec.specs.declared.field.TheConstants.{MESSAGE_BYTES}
use Rattle.script_codec.specs.declared.line.Line.{Line}
use Rattle.script_codec.specs.declared.line.Line.TheVariants.{Zone, Primary, Allow, Transfer, Full, Query, Give, Fail, Notify, Due, Clock}
use Rattle.script_codec.specs.declared.state.TheConstants.{WORKERS}
use Rattle.policy_override.specs.ZoneSet.{has_zone_name}
use Rattle.script_codec.specs.State.{PlainState, opening, running, zone_count, is_pending, has_primary}

-- there is a zone of this number; zone 1 is the first
abbrev pub IsZone : PlainState → ℕ → Type 0
IsZone state zone = (1 ≤ zone) × (zone ≤ zone_count state)

-- a worker has this number; worker 0 is the first
abbrev pub IsWorker : ℕ → Type 0
IsWorker worker = worker < WORKERS

-- a message is not too long (RFC 1035, section 4.2.2)
abbrev pub IsMessage : List ℕ → Type 0
IsMessage message = length message ≤ MESSAGE_BYTES

-- A zone of this origin may be opened: all lines so far were zone lines, primary lines and allow lines, there is room for one
-- more, and none has this origin.
abbrev pub MayOpen : PlainState → Name → Type 0
MayOpen (opening origins primaries allowed) origin =
    (length origins < ZONE_LIMIT) × (has_zone_name origins origin ≡ false)
MayOpen (running zones pending) origin = ⊥

-- The zone of this number may be given a primary: all lines so far were of these three kinds, and it has none.
abbrev pub MayHavePrimary : PlainState → ℕ → Type 0
MayHavePrimary (opening origins primaries allowed) zone = has_primary primaries zone ≡ false
MayHavePrimary (running zones pending) zone = ⊥

-- The clients of this network may be allowed to ask: all lines so far were of these three kinds, there is room for one network
-- more, and none is this one.
abbrev pub MayAllow : PlainState → PlainPrefix → Type 0
MayAllow (opening origins primaries allowed) network =
    (length allowed < NETWORK_LIMIT) × (has_network allowed network ≡ false)
MayAllow (running zones pending) network = ⊥

-- A transfer is of an open zone; a worker with a pending query gets no other, and only such a worker gets an answer.
abbrev pub IsWithin : PlainState → Line → Type 0
IsWithin state (Zone origin over) = IsName origin × MayOpen state origin
IsWithin state (Primary zone address) = IsZone state zone × MayHavePrimary state zone
IsWithin state (Allow network) = IsNetwork network × MayAllow state network
IsWithin state (Transfer zone stream) = IsZone state zone
IsWithin state (Full zone) = IsZone state zone
IsWithin state (Query worker transport client message) =
    IsWorker worker × IsMessage message × (is_pending state worker ≡ false)
IsWithin state (Give worker message) =
    IsWorker worker × IsMessage message × (is_pending state worker ≡ true)
IsWithin state (Fail worker) = IsWorker worker × (is_pending state worker ≡ true)
IsWithin state (Notify client message) = Unit {0}
IsWithin state Due = Unit {0}
IsWithin state (Clock seconds) = Unit {0}

-- the same of a line that may be skipped
abbrev pub SaysWithin : PlainState → Option Line → Type 0
SaysWithin state None = Unit {0}
SaysWithin state (Some line) = IsWithin state line
