use Rattle.std.proofs.Common.{[], length}
use Rattle.packed_names.specs.Recent.{known_after}
use Rattle.packed_names.proofs.RecentLemmas.{Matching}
use Rattle.packed_names.proofs.recent.longest_match.Given as goal

abbrev pub invariant-loop-count : goal.invariant-loop-count
invariant-loop-count l = Matching (known_after [] l.names) l.octets l.rest

abbrev pub decreases-loop-count : goal.decreases-loop-count
decreases-loop-count l = length l.rest
