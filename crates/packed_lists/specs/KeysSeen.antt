-- What contracts see of a key that is lent.
use Rattle.packed_lists.specs.Keyed.{PlainKeyed}
use Rattle.packed_lists.specs.declared.keyed.Keyed.{Keyed}

-- its octets and its number
abbrev pub keyed_seen : Keyed → PlainKeyed
keyed_seen keyed = record { key = keyed.key.now; number = keyed.number }
