use Rattle.dns_name.specs.Wire.{labels_in}
use Rattle.packed_names.proofs.RecentLemmas.{Searching}
use Rattle.packed_names.proofs.recent.offset_among.Given as goal

abbrev pub invariant-loop-name : goal.invariant-loop-name
invariant-loop-name l = Searching l.names l.name-index (labels_in l.octets)
