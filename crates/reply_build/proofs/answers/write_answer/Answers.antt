use Rattle.reply_build.specs.Reply.{soa_list}
use Rattle.upstream_link.specs.Kept.{aged_answers}
use Rattle.reply_build.proofs.Pieces.{both_written}
use Rattle.reply_build.proofs.answers.write_answer.Goals as goal

pub returns : goal.returns
returns c = both_written c.write_soa.result c.args.writer.now c.write_all_aged.new.self c.write_soa.new.writer (aged_answers c.args.answer.now) (soa_list c.args.answer.now) (rw (c.answers.ensures, c.age.ensures) at c.in_ok-write_all_aged.ensures) c.write_soa.ensures
