-- Rows in one list of octets.
use Rattle.std.specs.Prelude.{ℕ, ◌+◌, ◌≤◌, List, slice_range}
use Rattle.packed_lists.specs.Stored.{PlainStored}
use Rattle.packed_lists.specs.declared.entry.Entry.{Entry}

-- the row of an entry
abbrev pub unpacked : List ℕ → Entry → PlainStored
unpacked octets e = record {
  number = e.number;
  owner = slice_range octets e.start (e.start + e.owner_len);
  rtype = e.rtype;
  ttl = e.ttl;
  rdata = slice_range octets (e.start + e.owner_len) (e.start + e.owner_len + e.data_len);
}

-- the row of the entry lies within so many octets
abbrev pub LiesWithin : ℕ → Entry → Type 0
LiesWithin count e = e.start + e.owner_len + e.data_len ≤ count
