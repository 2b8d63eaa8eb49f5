use Rattle.std.proofs.Common.{◌≡◌, drop}
use Rattle.dns_message.specs.Progress.{writing_after}
use Rattle.dns_message.proofs.message_writer.write_all.Given as goal

abbrev pub invariant-loop-rr : goal.invariant-loop-rr
invariant-loop-rr l = writing_after l.writer (drop l.rr-index l.records) ≡ writing_after l.initial.writer l.records
