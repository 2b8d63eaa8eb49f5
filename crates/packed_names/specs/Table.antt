-- The table that finds the place of a suffix: entries in the order in which they were written, which chains go through from the
-- last to the first.
use Rattle.std.specs.Prelude.{◌≡◌, ◌≢◌, ℕ, ◌≤◌, ◌<◌, ◌+◌, List, ◌∷◌, ◌++◌, length, map, slice_index, Some}
use Rattle.std.specs.List.{AllByRecursion}
use Rattle.dns_name.specs.Labels.{label_octets}
use Rattle.dns_name.specs.Wire.{labels_in, IsWire}
use Rattle.packed_names.specs.declared.table.SuffixEntry.{SuffixEntry}
use Rattle.packed_names.specs.declared.pointing.TheConstants.{POINTED_PLACES}
use Rattle.packed_names.specs.Hash.{hash_of, bucket}
use Rattle.packed_names.specs.Places.{Place, first_offset}

-- the place of an entry
abbrev pub suffix_place : SuffixEntry → Place
suffix_place suffix = record { offset = suffix.offset; labels = labels_in suffix.octets.now }

abbrev pub suffix_places : List SuffixEntry → List Place
suffix_places suffixes = map suffix_place suffixes

abbrev pub hashes_of : List SuffixEntry → List ℕ
hashes_of suffixes = map (λ s. s.hash) suffixes

abbrev pub nexts_of : List SuffixEntry → List ℕ
nexts_of suffixes = map (λ s. s.next) suffixes

-- an entry has a name as it is written in full, its hash, and the offset of its first place, to which a pointer can lead
pub record IsSuffixEntry (key : ℕ) (places : List Place) (suffix : SuffixEntry) : Type 0 where
  pub wire : IsWire suffix.octets.now
  pub hash : suffix.hash ≡ hash_of key suffix.octets.now
  pub first : first_offset places (labels_in suffix.octets.now) ≡ Some suffix.offset
  pub near : suffix.offset < POINTED_PLACES

-- no entry from the index `from` on up to the index `to` is in the bucket
pub record Skips (hashes : List ℕ) (from to b : ℕ) : Type 0 where
  pub order : from ≤ to
  pub others : (k : ℕ) → from ≤ k → k < to → bucket (slice_index hashes k) ≢ b

-- A chain leaves out no entry of its bucket, neither between an entry and the next nor behind the head.
pub record IsTable (key : ℕ) (heads : List ℕ) (suffixes : List SuffixEntry) : Type 0 where
  pub each : AllByRecursion (IsSuffixEntry key (suffix_places suffixes)) suffixes
  pub links : (k : ℕ) → k < length suffixes →
      Skips (hashes_of suffixes) (slice_index (nexts_of suffixes) k) k (bucket (slice_index (hashes_of suffixes) k))
  pub starts : (b : ℕ) → b < length heads →
      Skips (hashes_of suffixes) (slice_index heads b) (length suffixes) b

-- the octets are a name as it is written in full: a first label of `count` octets with its length byte, and a name behind it
pub record SplitsLabel (octets : List ℕ) (count : ℕ) (others : List ℕ) : Type 0 where
  pub label : List ℕ
  pub labels : labels_in octets ≡ label ∷ labels_in others
  pub parts : octets ≡ label_octets label ++ others
  pub count_is : count ≡ length label + 1
  pub wire : IsWire others
