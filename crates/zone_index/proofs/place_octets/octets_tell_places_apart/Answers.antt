use Rattle.zone_index.proofs.OctetsApart.{octets_tell_places}
use Rattle.zone_index.proofs.place_octets.octets_tell_places_apart.Goals as goal

pub returns : goal.returns
returns c = octets_tell_places c.keys_are_of_patterns.ensures.back
