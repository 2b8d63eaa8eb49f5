use Rattle.std.proofs.Common.{◌+◌, ◌*◌, length}
use Rattle.prefix_index.proofs.build.+build.Given as goal

abbrev pub decreases-build : goal.decreases-build
decreases-build g l = 2 * length l.entries.now + 1

abbrev pub decreases-build_above : goal.decreases-build_above
decreases-build_above g l = 2 * length l.rest.now + 2

abbrev pub decreases-build_apart : goal.decreases-build_apart
decreases-build_apart g l = 2 * length l.entries.now
