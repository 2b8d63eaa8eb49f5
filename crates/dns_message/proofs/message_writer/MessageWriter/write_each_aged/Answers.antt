use Rattle.std.proofs.Common.{ap, ◌∙◌, [], ◌∷◌}
use Rattle.dns_record.specs.Record.{PlainRecord}
use Rattle.dns_message.specs.Progress.{writing_after}
use Rattle.dns_message.proofs.ProgressSteps.{aged_done, aged_more}
use Rattle.dns_message.proofs.message_writer.MessageWriter.write_each_aged.Goals as goal

pub loop-rr-preserved : goal.loop-rr-preserved
loop-rr-preserved c = (tt, tt, aged_more c.args.seconds c.loop-rr.self c.write_next.new.self _ c.in-Some.rr c.loop-rr.rr-iterator c.next.new.self c.in-Some.ensures.steps (c.in_ok-write_next.ensures ∙ ap (λ (r : PlainRecord). writing_after c.loop-rr.self (r ∷ [])) c.aged_ref.ensures) c.loop-rr.invariant.2)

pub returns : goal.returns
returns c = aged_done c.args.seconds c.loop-rr.self _ c.loop-rr.rr-iterator c.in-None.ensures.steps.0 c.loop-rr.invariant.2
