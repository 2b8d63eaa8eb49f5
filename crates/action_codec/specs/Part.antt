-- One row that is lent.
use Rattle.action_codec.specs.Local.{PlainLocal}
use Rattle.action_codec.specs.declared.local_ref.LocalPart.{LocalPart}

abbrev pub part_seen : LocalPart → PlainLocal
part_seen part = record { rtype = part.rtype; ttl = part.ttl; rdata = part.rdata.now }
