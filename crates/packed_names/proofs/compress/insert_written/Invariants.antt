use Rattle.std.proofs.Common.{length}
use Rattle.packed_names.specs.Table.{suffix_places}
use Rattle.packed_names.proofs.InsertingLemmas.{Inserting}
use Rattle.packed_names.proofs.compress.insert_written.Given as goal

abbrev pub invariant-loop-count : goal.invariant-loop-count
invariant-loop-count l = Inserting l.key (suffix_places l.fn.suffixes.items) l.octets l.start l.end l.heads.items l.suffixes.items l.rest l.at

abbrev pub decreases-loop-count : goal.decreases-loop-count
decreases-loop-count l = length l.rest
