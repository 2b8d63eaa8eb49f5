use Rattle.std.proofs.Common.{sym, ◌∙◌}
use Rattle.action_codec.specs.Seen.{part_seen}
use Rattle.reply_build.proofs.Pieces.{none_asked}
use Rattle.reply_build.proofs.rows.write_if_asked.Goals as goal

pub returns-else-is_asked : goal.returns-else-is_asked
returns-else-is_asked c = none_asked c.args.owner.now c.args.qtype (part_seen c.args.row) c.args.writer.now (sym c.is_asked.ensures ∙ c.if-is_asked.false)
