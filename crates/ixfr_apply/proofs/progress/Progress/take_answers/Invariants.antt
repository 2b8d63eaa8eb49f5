use Rattle.std.proofs.Common.{◌≡◌, drop}
use Rattle.ixfr_apply.specs.Progress.{answers_run}
use Rattle.ixfr_apply.proofs.progress.Progress.take_answers.Given as goal

-- the records that are left do what all of them do
abbrev pub invariant-loop-rr : goal.invariant-loop-rr
invariant-loop-rr l = answers_run l.asked l.alone l.self (drop l.rr-index l.answers) ≡ answers_run l.asked l.alone l.initial.self l.answers
