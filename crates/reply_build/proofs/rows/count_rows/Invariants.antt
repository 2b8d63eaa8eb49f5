use Rattle.std.proofs.Common.{◌≡◌, ◌+◌, ◌≤◌, length, filter, drop}
use Rattle.reply_build.specs.Reply.{is_asked}
use Rattle.reply_build.proofs.rows.count_rows.Given as goal

abbrev pub invariant-loop-place : goal.invariant-loop-place
invariant-loop-place l = (l.count + length (filter (is_asked l.qtype) (drop l.place l.rows)) ≡ length (filter (is_asked l.qtype) l.rows)) × (l.count ≤ l.place)
