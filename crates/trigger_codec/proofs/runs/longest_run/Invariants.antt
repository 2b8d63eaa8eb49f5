use Rattle.std.proofs.Common.{◌≡◌, drop}
use Rattle.trigger_codec.specs.Canonical.{longer_run, longest_run}
use Rattle.trigger_codec.specs.Seen.{run_seen}
use Rattle.trigger_codec.proofs.runs.longest_run.Given as goal

abbrev pub invariant-loop-place : goal.invariant-loop-place
invariant-loop-place l = longest_run 0 l.words ≡ longer_run (run_seen l.run) (longest_run l.place (drop l.place l.words))
