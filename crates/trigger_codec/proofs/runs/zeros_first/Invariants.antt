use Rattle.std.proofs.Common.{◌≡◌, ◌+◌, drop}
use Rattle.trigger_codec.specs.Canonical.{zeros_first}
use Rattle.trigger_codec.proofs.runs.zeros_first.Given as goal

abbrev pub invariant-loop-word : goal.invariant-loop-word
invariant-loop-word l = record { count : l.zeros ≡ l.word-index; so_far : zeros_first l.words ≡ l.zeros + zeros_first (drop l.word-index l.words) }
