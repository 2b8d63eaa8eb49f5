-- The state that a line is read in.
use Rattle.std.specs.Prelude.{ℕ, ◌-◌, nat_le, Bool, false, List, length, Option, None, is_some, slice_index_or, Result, Err}
use Rattle.dns_name.specs.Labels.{Name}
use Rattle.ip_prefix.specs.declared.Addr.{Addr}
use Rattle.ip_prefix.specs.Prefix.{PlainPrefix}
use Rattle.networks.specs.declared.allow_list.TheConstants.{NETWORK_LIMIT}
use Rattle.networks.specs.Allowed.{has_network}
use Rattle.script_codec.specs.declared.state.ScriptState.{ScriptState}
use Rattle.script_codec.specs.declared.state.ScriptState.TheVariants.{Opening, Running}
use Rattle.zone_rows.specs.declared.zone.TheConstants.{ZONE_LIMIT}
use Rattle.script_codec.specs.declared.line_fault.LineFault.{LineFault}
use Rattle.script_codec.specs.declared.line_fault.LineFault.TheVariants as why
use Rattle.policy_override.specs.ZoneSet.{has_zone_name, origins_in}
use Rattle.dns_name.specs.Reading.{◌>>=◌}
use Rattle.script_codec.specs.Outcome.{refuse_if}

-- What a line is read by: the zones that were opened, or how many there are and which workers wait. While all lines were zone
-- lines, primary lines and allow lines: the origins of the zones, zone 1 first, the primary of each or none, and the networks
-- that were named. After any other line: the number of zones, and for each worker, worker 0 first, whether it has a pending
-- query.
pub data PlainState : Type 0 where
  opening : List Name → List (Option Addr) → List PlainPrefix → PlainState
  running : ℕ → List Bool → PlainState

-- what the code holds by reference
abbrev pub state_of : ScriptState → PlainState
state_of (Opening zones primaries allowed) =
    opening (origins_in zones.now) primaries.now allowed.now
state_of (Running zones pending) = running zones pending

-- how many zones there are
abbrev pub zone_count : PlainState → ℕ
zone_count (opening origins primaries allowed) = length origins
zone_count (running zones pending) = zones

-- whether the worker has a pending query
abbrev pub is_pending : PlainState → ℕ → Bool
is_pending (opening origins primaries allowed) worker = false
is_pending (running zones pending) worker = slice_index_or pending worker false

-- whether a zone of this origin may be opened
unfoldable pub opens : PlainState → Name → Result (Unit {0}) LineFault
opens (opening origins primaries allowed) origin = do
  _ ← refuse_if (nat_le ZONE_LIMIT (length origins)) why.Many
  refuse_if (has_zone_name origins origin) why.Repeated
opens (running zones pending) origin = Err why.Late

-- whether the zone of this number has a primary; zone 1 is the first
abbrev pub has_primary : List (Option Addr) → ℕ → Bool
has_primary primaries zone = is_some (slice_index_or primaries (zone - 1) None)

-- whether the zone of this number may be given a primary
unfoldable pub takes_primary : PlainState → ℕ → Result (Unit {0}) LineFault
takes_primary (opening origins primaries allowed) zone =
    refuse_if (has_primary primaries zone) why.Repeated
takes_primary (running zones pending) zone = Err why.Late

-- whether this network may be one whose clients may ask
unfoldable pub takes_network : PlainState → PlainPrefix → Result (Unit {0}) LineFault
takes_network (opening origins primaries allowed) network = do
  _ ← refuse_if (nat_le NETWORK_LIMIT (length allowed)) why.Many
  refuse_if (has_network allowed network) why.Repeated
takes_network (running zones pending) network = Err why.Late
