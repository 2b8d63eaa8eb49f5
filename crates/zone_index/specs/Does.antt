-- What rows do, as plain values.
use Rattle.std.specs.Prelude.{Bool, true, false}
use Rattle.zone_index.specs.declared.does.Does.{Does}
use Rattle.zone_index.specs.declared.does.Does.TheVariants.{Nothing, NxDomain, NoData, PassThru, Drop, TcpOnly, Row, Rows}
use Rattle.zone_index.specs.declared.does.DoesRef.{DoesRef}
use Rattle.zone_index.specs.declared.does.DoesRef.TheVariants as lent

-- the rows do something
abbrev pub acts : Does → Bool
acts Nothing = false
acts NxDomain = true
acts NoData = true
acts PassThru = true
acts Drop = true
acts TcpOnly = true
acts Row = true
acts (Rows rows) = true

abbrev pub does_seen : DoesRef → Does
does_seen lent.Nothing = Nothing
does_seen lent.NxDomain = NxDomain
does_seen lent.NoData = NoData
does_seen lent.PassThru = PassThru
does_seen lent.Drop = Drop
does_seen lent.TcpOnly = TcpOnly
does_seen lent.Row = Row
does_seen (lent.Rows rows) = Rows rows
