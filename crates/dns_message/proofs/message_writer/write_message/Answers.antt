use Rattle.std.proofs.Common.{option_copied, refl, ap, ◌∙◌}
use Rattle.dns_message.specs.Spelling.{opt_count}
use Rattle.dns_message.proofs.ProgressSteps.{sections_written}
use Rattle.dns_message.proofs.message_writer.write_message.Goals as goal

pub returns-clause-octets : goal.returns-clause-octets
returns-clause-octets c =
    c.finish.ensures.message c.args.limit c.args.message.now
    (sections_written c.args.limit c.args.message.now c.in_ok-writer.writer c.write_all.new.writer c.write_all-2.new.writer c.write_all-3.new.writer (option_copied c.as_ref-question.result) c.opt_records.result
    c.as_slice-answer.result.now c.as_slice-authority.result.now c.as_slice-additional.result.now c.as_slice-answer.ensures c.as_slice-authority.ensures c.as_slice-additional.ensures c.as_ref-question.ensures.value (c.opt_records.ensures.count ∙ ap opt_count c.as_ref-edns.ensures.value)
    c.in_ok-writer.ensures c.in_ok-write_all.ensures c.in_ok-write_all-2.ensures c.in_ok-write_all-3.ensures)
    refl c.as_ref-question.ensures.value c.as_ref-edns.ensures.value
