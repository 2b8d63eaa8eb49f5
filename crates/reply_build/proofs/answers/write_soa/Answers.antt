use Rattle.std.proofs.Common.{refl, sym, ◌∙◌}
use Rattle.reply_build.proofs.Followed.{no_alias}
use Rattle.reply_build.proofs.answers.write_soa.Goals as goal

pub returns-in-None : goal.returns-in-None
returns-in-None c = no_alias c.args.answer.now.age c.args.answer.now.soa c.args.writer.now (sym c.soa.ensures ∙ rw c.in-None.is refl)
