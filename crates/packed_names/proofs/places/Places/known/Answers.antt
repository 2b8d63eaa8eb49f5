use Rattle.std.proofs.Common.{◌≡◌, List, ap, ◌∙◌}
use Rattle.dns_name.specs.Wire.{labels_in}
use Rattle.packed_names.specs.declared.table.SuffixEntry.{SuffixEntry}
use Rattle.packed_names.specs.declared.recent.RecentName.{RecentName}
use Rattle.packed_names.specs.Recent.{known_places}
use Rattle.packed_names.proofs.CompressLemmas.{known_octets, known_places_none}
use Rattle.packed_names.proofs.places.Places.known.Goals as goal
use Rattle.packed_names.proofs.places.Places.known.Goals.{After-known_offset}

same : (c : After-known_offset) → known_places c.as_slice-2.result.now c.as_slice-3.result.now ≡ c.args.self.now
same c =
    ap (λ (s : List SuffixEntry). known_places s c.as_slice-3.result.now) c.as_slice-2.ensures.value ∙ ap (λ (names : List RecentName). known_places c.self.inside.suffixes.items names) c.as_slice-3.ensures ∙ c.self.view_is

pub returns-clause-octets : goal.returns-clause-octets
returns-clause-octets c =
    known_octets c.known_offset.result c.args.self.now (known_places c.as_slice-2.result.now c.as_slice-3.result.now) (labels_in c.args.octets.now) (same c) c.known_offset.ensures.place c.known_offset.ensures.label

pub returns-clause-places : goal.returns-clause-places
returns-clause-places c at =
    known_places_none c.known_offset.result c.args.self.now (known_places c.as_slice-2.result.now c.as_slice-3.result.now) at (labels_in c.args.octets.now) (same c) c.known_offset.ensures.place c.known_offset.ensures.label
