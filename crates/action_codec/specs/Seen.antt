-- What an index lends, as plain values.
use Rattle.action_codec.specs.declared.action.Action.{Action}
use Rattle.action_codec.specs.declared.action.Action.TheVariants as actions
use Rattle.action_codec.specs.declared.action.ActionRef.{ActionRef}
use Rattle.action_codec.specs.declared.action.ActionRef.TheVariants.{NxDomain, NoData, PassThru, Drop, TcpOnly, Local}
pub use Rattle.action_codec.specs.Part.{part_seen}

abbrev pub action_seen : ActionRef → Action
action_seen NxDomain = actions.NxDomain
action_seen NoData = actions.NoData
action_seen PassThru = actions.PassThru
action_seen Drop = actions.Drop
action_seen TcpOnly = actions.TcpOnly
action_seen (Local rows) = actions.Local rows
