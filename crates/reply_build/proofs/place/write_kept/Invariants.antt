use Rattle.std.proofs.Common.{◌≡◌, drop}
use Rattle.dns_message.specs.Progress.{writing_after}
use Rattle.reply_build.proofs.Followed.{kept}
use Rattle.reply_build.proofs.place.write_kept.Given as goal

abbrev pub invariant-loop-name : goal.invariant-loop-name
invariant-loop-name l = writing_after l.writer (kept l.age l.records (drop l.name-index l.before)) ≡ writing_after l.initial.writer (kept l.age l.records l.before)
