-- What the marks in tries say.
use Rattle.std.specs.Prelude.{Bool, true, false, Option, Some, None}
use Rattle.zone_index.specs.declared.does.Does.{Does}
use Rattle.zone_index.specs.declared.does.Does.TheVariants as actions
use Rattle.zone_index.specs.declared.kept.Kept.{Kept}
use Rattle.zone_index.specs.declared.kept.Kept.TheVariants.{Absent, Nothing, NxDomain, NoData, PassThru, Drop, TcpOnly, Row, Group, IdleGroup}

-- there is a number
abbrev pub is_kept : Kept → Bool
is_kept Absent = false
is_kept Nothing = true
is_kept NxDomain = true
is_kept NoData = true
is_kept PassThru = true
is_kept Drop = true
is_kept TcpOnly = true
is_kept Row = true
is_kept Group = true
is_kept IdleGroup = true

-- the rows do something
abbrev pub kept_acts : Kept → Bool
kept_acts Absent = false
kept_acts Nothing = false
kept_acts NxDomain = true
kept_acts NoData = true
kept_acts PassThru = true
kept_acts Drop = true
kept_acts TcpOnly = true
kept_acts Row = true
kept_acts Group = true
kept_acts IdleGroup = false

-- what the row does whose number has this mark
abbrev pub lone_does : Kept → Does
lone_does Absent = actions.Nothing
lone_does Nothing = actions.Nothing
lone_does NxDomain = actions.NxDomain
lone_does NoData = actions.NoData
lone_does PassThru = actions.PassThru
lone_does Drop = actions.Drop
lone_does TcpOnly = actions.TcpOnly
lone_does Row = actions.Row
lone_does Group = actions.Nothing
lone_does IdleGroup = actions.Nothing

-- the mark of the number of a row that does so, if there is one
abbrev pub mark_of : Does → Option Kept
mark_of actions.Nothing = Some Nothing
mark_of actions.NxDomain = Some NxDomain
mark_of actions.NoData = Some NoData
mark_of actions.PassThru = Some PassThru
mark_of actions.Drop = Some Drop
mark_of actions.TcpOnly = Some TcpOnly
mark_of actions.Row = Some Row
mark_of (actions.Rows rows) = None
