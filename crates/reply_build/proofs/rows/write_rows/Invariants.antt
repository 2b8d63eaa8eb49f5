use Rattle.std.proofs.Common.{◌≡◌, drop}
use Rattle.dns_message.specs.Progress.{writing_after}
use Rattle.reply_build.specs.Parts.{asked_records}
use Rattle.reply_build.proofs.rows.write_rows.Given as goal

abbrev pub invariant-loop-place : goal.invariant-loop-place
invariant-loop-place l = writing_after l.writer (asked_records l.owner l.qtype (drop l.place l.rows)) ≡ writing_after l.initial.writer (asked_records l.owner l.qtype l.rows)
