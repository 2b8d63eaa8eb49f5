use Rattle.std.proofs.Common.{◌≡◌, ◌≤◌, ◌++◌, map, reverse, drop, length}
use Rattle.std.specs.String.{string_bytes}
use Rattle.trigger_codec.specs.Canonical.{hexadecimal}
use Rattle.trigger_codec.specs.Dotted.{dotted}
use Rattle.trigger_codec.proofs.spelling.write_each.Given as goal

abbrev pub invariant-loop-left : goal.invariant-loop-left
invariant-loop-left l = record {
  written : string_bytes l.text ≡ string_bytes l.initial.text ++ dotted (reverse (map hexadecimal (drop l.left l.words)));
  within : l.left ≤ length l.words;
}

abbrev pub decreases-loop-left : goal.decreases-loop-left
decreases-loop-left l = l.left
