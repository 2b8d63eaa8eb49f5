-- A message as parts: each name is read.
use Rattle.std.proofs.Common.{◌≡◌, ℕ, ◌+◌, List, [], ◌∷◌, ◌++◌, length, refl, sym, subst, append_assoc, length-append}
use Rattle.std.specs.List.{AllByRecursion}
use Rattle.std.proofs.lemmas.List.{append-nil}
use Rattle.dns_name.specs.Labels.{name_octets}
use Rattle.dns_name.proofs.Standing.{name_written}
use Rattle.packed_names.specs.Places.{Place}
use Rattle.packed_names.specs.Occurrence.{AreOccurrences}
use Rattle.packed_names.specs.MessageParts as form
use Rattle.packed_names.specs.MessageParts.{MessagePart, part_octets, part_places, compressed_parts, IsValidPart, IsReadAt, AreReadFrom}
use Rattle.packed_names.proofs.InsertLemmas.{in_full_occurs}
use Rattle.packed_names.proofs.ReadLemmas.{begins_at, compressed_read, compressed_occurs, occurrences_more}

-- behind one part the places are occurrences still
part_occurs : (places : List Place) (message : List ℕ) (part : MessagePart) → AreOccurrences message places → IsValidPart part → AreOccurrences (message ++ part_octets places part) (places ++ part_places places (length message) part)
part_occurs places message (form.octets bytes) occur is = subst (AreOccurrences (message ++ bytes)) (sym (append-nil places)) (occurrences_more places message bytes occur)
part_occurs places message (form.full_name labels) occur is = in_full_occurs places message labels occur is
part_occurs places message (form.compressed_name labels) occur is = compressed_occurs places message labels occur is

part_read : (places : List Place) (message more : List ℕ) (part : MessagePart) → AreOccurrences message places → IsValidPart part → IsReadAt ((message ++ part_octets places part) ++ more) (length message) (length message + length (part_octets places part)) part
part_read places message more (form.octets bytes) occur is = tt
part_read places message more (form.full_name labels) occur is =
    name_written labels ((message ++ name_octets labels) ++ more) (length message) (length message + length (name_octets labels)) is
    (record { begins = begins_at message (name_octets labels) more ((message ++ name_octets labels) ++ more) (length message) (append_assoc message (name_octets labels) more) refl; ends = refl })
part_read places message more (form.compressed_name labels) occur is = compressed_read places message more labels occur is

-- each name of a message is read
pub parts_read : (places : List Place) (message : List ℕ) (parts : List MessagePart) → AreOccurrences message places → AllByRecursion IsValidPart parts → AreReadFrom (message ++ compressed_parts places (length message) parts) places (length message) parts
unfolding compressed_parts AreReadFrom
parts_read places message [] occur is = tt
parts_read places message (part ∷ parts) occur is =
    let own = part_octets places part in
    let places' = places ++ part_places places (length message) part in
    let at = length message + length own in
    let rest = compressed_parts places' at parts in
    let len : length (message ++ own) ≡ at = length-append message own in
    let assoc : message ++ (own ++ rest) ≡ (message ++ own) ++ rest = sym (append_assoc message own rest) in
    let go = parts_read places' (message ++ own) parts (part_occurs places message part occur is.0) is.1 in (
      subst (λ (m : List ℕ). IsReadAt m (length message) at part) (sym assoc) (part_read places message rest part occur is.0),
      subst (λ (m : List ℕ). AreReadFrom m places' at parts) (sym assoc) (subst (λ (n : ℕ). AreReadFrom ((message ++ own) ++ compressed_parts places' n parts) places' n parts) len go),
    )
