use Rattle.dns_name.specs.Wire.{labels_in}
use Rattle.packed_names.specs.Table.{suffix_places}
use Rattle.packed_names.proofs.RecentLemmas.{some_more}
use Rattle.packed_names.proofs.places.known_offset.Goals as goal

pub returns-else-is_empty-clause-place : goal.returns-else-is_empty-clause-place
returns-else-is_empty-clause-place c = some_more (suffix_places c.args.suffixes.now) c.args.names.now (labels_in c.args.octets.now) c.offset_if_first-else-is_empty.result c.offset_if_first-else-is_empty.ensures.place
