use Rattle.std.proofs.Common.{◌≡◌, ◌≤◌, ◌*◌, map, take}
use Rattle.std.specs.Char.{to_ascii_lowercase}
use Rattle.std.specs.List.{sum}
use Rattle.answer_cache.proofs.shard.octet_sum.Given as goal

abbrev pub invariant-loop-octet : goal.invariant-loop-octet
invariant-loop-octet l =
    (l.total ≡ sum (map to_ascii_lowercase (take l.octet-index l.octets))) × (l.total ≤ 255 * l.octet-index)
