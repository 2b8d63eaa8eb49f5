-- Entries by the octets of their keys, and entries from which a zone is taken out.
use Rattle.std.specs.Prelude.{ℕ, ◌==◌, Bool, true, if◌then◌else◌, List, [], ◌∷◌, map}
use Rattle.std.specs.Cmp.Lexicographic.{slice_cmp}
use Rattle.std.specs.List.{flat_map}
use Rattle.std.specs.Ordering.{nat_cmp}
use Rattle.octet_trie.specs.ListKeys.{entry_key}
use Rattle.octet_trie.specs.Trie.{found_entry}
use Rattle.octet_trie.specs.declared.trie.OctetFound.{OctetFound}
use Rattle.trie_keys.specs.declared.marked.Marked.{Marked}
use Rattle.summary_index.specs.Summary.{Standing, zones_at}
use Rattle.summary_index.specs.Zones.{zones_without}

-- the entry of a key
abbrev pub entry_of : {N M : Type 0} → List ℕ → Bool → Marked N M → List ℕ × Marked N M
entry_of octets wild value = (entry_key octets wild, value)

-- the zones at a key
abbrev pub zones_by_key : List ℕ → List (OctetFound ℕ Bool) → ℕ
zones_by_key key es = zones_at (slice_cmp nat_cmp) key (map found_entry es)

module _ {K : Type 0} where
  -- the entry of a key and these zones, whose mark says that it is in a trie
  abbrev pub standing : K → ℕ → K × Standing
  standing key zones = (key, record { value = zones; mark = true })

  -- the entry, with that mark
  abbrev pub in_trie : K × Standing → K × Standing
  in_trie e = standing e.0 e.1.value

  -- the entry without a zone, or none where no zone is left
  abbrev pub entry_without : ℕ → K × Standing → List (K × Standing)
  entry_without number e =
      if zones_without number e.1.value == 0 then []
      else standing e.0 (zones_without number e.1.value) ∷ []

  abbrev pub entries_without : ℕ → List (K × Standing) → List (K × Standing)
  entries_without number es = flat_map (entry_without number) es
