use Rattle.std.proofs.Common.{◌≡◌, length}
use Rattle.rpz_words.specs.Zones as zones_form
use Rattle.rpz_words.proofs.zones.has_repeated.Given as goal

abbrev pub invariant-loop-left : goal.invariant-loop-left
invariant-loop-left l = zones_form.has_repeated l.left ≡ zones_form.has_repeated l.zones

abbrev pub decreases-loop-left : goal.decreases-loop-left
decreases-loop-left l = length l.left
