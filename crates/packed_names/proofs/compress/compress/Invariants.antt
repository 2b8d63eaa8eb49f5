use Rattle.std.proofs.Common.{length}
use Rattle.packed_names.specs.Table.{suffix_places}
use Rattle.packed_names.proofs.CompressLemmas.{CompressingRest}
use Rattle.packed_names.proofs.compress.compress.Given as goal

abbrev pub invariant-loop-count : goal.invariant-loop-count
invariant-loop-count l = CompressingRest l.key (suffix_places l.fn.suffixes.items) l.fn.out l.octets l.heads.items l.suffixes.items l.out l.rest

abbrev pub decreases-loop-count : goal.decreases-loop-count
decreases-loop-count l = length l.rest
