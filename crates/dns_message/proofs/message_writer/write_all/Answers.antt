use Rattle.std.proofs.Common.{◌≡◌, [], ◌∷◌, ap, ◌∙◌}
use Rattle.dns_message.specs.Progress.{writing_after}
use Rattle.dns_message.proofs.ProgressSteps.{writing_done, writing_more}
use Rattle.dns_message.proofs.message_writer.write_all.Goals as goal

pub loop-rr-preserved : goal.loop-rr-preserved
loop-rr-preserved c =
    let step : c.write.new.self ≡ writing_after c.loop-rr.writer (c.rr-item.result ∷ []) = c.in_ok-write.ensures ∙ ap (λ r. writing_after c.loop-rr.writer (r ∷ [])) c.record_ref.ensures in
    writing_more c.loop-rr.writer c.write.new.self _ c.args.records.now c.loop-rr.rr-index c.rr-item.result c.loop-rr-test.true (rw (← c.rr-item.is) step) c.loop-rr.invariant

pub returns : goal.returns
returns c = writing_done c.loop-rr.writer _ c.args.records.now c.loop-rr.rr-index c.loop-rr-test.false c.loop-rr.invariant
