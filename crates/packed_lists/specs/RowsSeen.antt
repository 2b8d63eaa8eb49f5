-- A row that is lent, as a value.
use Rattle.packed_lists.specs.Stored.{PlainStored}
use Rattle.packed_lists.specs.declared.stored_row.StoredRow.{StoredRow}

abbrev pub seen : StoredRow → PlainStored
seen v = record { number = v.number; owner = v.owner.now; rtype = v.rtype; ttl = v.ttl; rdata = v.rdata.now }
