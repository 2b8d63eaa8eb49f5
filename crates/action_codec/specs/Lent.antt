-- Rows of a rule that are lent.
use Rattle.std.specs.Prelude.{List, [], ◌∷◌}
use Rattle.dns_record.specs.Record.{IsData}
use Rattle.action_codec.specs.Local.{PlainLocal}
use Rattle.action_codec.specs.Part.{part_seen}
use Rattle.action_codec.specs.declared.local_ref.Lent.{Lent}
use Rattle.action_codec.specs.declared.local_ref.Lent.TheVariants.{Rows, One}

abbrev pub rows_in : Lent → List PlainLocal
rows_in (Rows rows) = rows.now
rows_in (One part) = part_seen part ∷ []

-- the data of one row in parts are those of a record of its type
abbrev pub AreData : Lent → Type 0
AreData (Rows rows) = Unit {0}
AreData (One part) = IsData part.rtype 1 part.rdata.now
