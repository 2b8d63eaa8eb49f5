use Rattle.std.proofs.Common.{◌≡◌, take}
use Rattle.rpz_words.specs.Zones.{zone_sets}
use Rattle.rpz_words.proofs.zones.Zones.sets.Given as goal

abbrev pub invariant-loop-setting : goal.invariant-loop-setting
invariant-loop-setting l = l.sets ≡ zone_sets (take l.setting-index l.setting-items)
