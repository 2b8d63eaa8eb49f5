use Rattle.std.proofs.Common.{sym}
use Rattle.dns_message.proofs.ProgressSteps.{writing_none}
use Rattle.reply_build.proofs.answers.write_answer_of.Goals as goal

pub returns-in-None : goal.returns-in-None
returns-in-None c = rw c.in-None.is (sym (writing_none c.args.writer.now))
