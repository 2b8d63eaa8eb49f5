-- Records of one owner, in whose data no names are compressed (RFC 1035, section 4.1.4).
use Rattle.std.specs.Prelude.{◌≡◌, ℕ, List, [], None}
use Rattle.std.specs.List.{AllByRecursion}
use Rattle.dns_name.specs.Labels.{Name}
use Rattle.packed_names.specs.Places.{Place, compressed_octets, new_places, pointer_octets}
use Rattle.dns_record.specs.Record.{PlainRecord}
use Rattle.dns_message.specs.Compressed.{compressed_layout}

-- a record of this owner, in whose data no names are compressed
pub record IsAlike (owner : Name) (r : PlainRecord) : Type 0 where
  pub is_owner : r.owner ≡ owner
  pub is_plain : compressed_layout r.rtype r.class ≡ None

-- All records have one owner, and in their data no names are compressed.
pub record AreAlike (records : List PlainRecord) : Type 0 where
  pub owner : Name
  pub are : AllByRecursion (IsAlike owner) records

-- Behind these places the owner of a record is a pointer to this offset and adds no places, and no names in its data are compressed.
pub record IsPointed (places : List Place) (offset : ℕ) (r : PlainRecord) : Type 0 where
  pub pointer : compressed_octets places r.owner ≡ pointer_octets offset
  pub no_places : (at : ℕ) → new_places places at r.owner ≡ []
  pub is_plain : compressed_layout r.rtype r.class ≡ None
