-- A row as a list of rows keeps it.
use Rattle.dns_name.specs.Wire.{IsWire, labels_in}
use Rattle.dns_record.specs.declared.class.TheConstants.{IN}
use Rattle.dns_record.specs.Record.{PlainRecord}
use Rattle.dns_record.specs.Row.{PlainRow, IsRow}
use Rattle.packed_lists.specs.Stored.{PlainStored}

-- the row: the octets of its owner are a name as it is written
abbrev pub plain_row : PlainStored → PlainRow
plain_row s =
    record { owner = labels_in s.owner; rtype = s.rtype; ttl = s.ttl; rdata = s.rdata }

-- what is kept is a row, and nothing stands behind the name
pub record IsStored (s : PlainStored) : Type 0 where
  pub is_wire : IsWire s.owner
  pub is_row : IsRow (plain_row s)

-- the record of class IN that the row is
abbrev pub record_of : PlainRow → PlainRecord
record_of row =
    record {
      owner = row.owner;
      rtype = row.rtype;
      class = IN;
      ttl = row.ttl;
      rdata = row.rdata;
    }
