use Rattle.std.proofs.Common.{refl, sym, ap, ◌∙◌, inl}
use Rattle.rpz_words.specs.Pages.{page_text}
use Rattle.rpz_program.specs.declared.serve_error.ServeError.TheVariants.{OutOfMemory}
use Rattle.rpz_program.proofs.Loads.{begins, begins_text, done_unless, ends_load, ends_page, nothing, same_load, same_page, written_if, written_text}
use Rattle.rpz_program.proofs.RunSteps.{untouched}
use Rattle.rpz_program.proofs.Statuses.{bad_line_of, same_settings, stopped_by, verdict_is}
use Rattle.rpz_program.proofs.run.run.Goals as goal

pub returns-in-Ok-Replay-clause-no_further : goal.returns-in-Ok-Replay-clause-no_further
returns-in-Ok-Replay-clause-no_further g c = λ line why e. c.replay_script.ensures.no_further line why (bad_line_of c.replay_script.result line why (sym c.of_replay.ensures ∙ e))

pub returns-in-Ok-Replay-clause-complete : goal.returns-in-Ok-Replay-clause-complete
returns-in-Ok-Replay-clause-complete g c = λ asks taken no_source no_sink memory. rw c.of_replay.ensures (verdict_is c.replay_script.result _ _ _ _ _ _ c.replay_script.ensures.ends c.replay_script.ensures.fault no_source no_sink (rw c.of_replay.ensures at memory))

pub returns-in-Ok-Serve-clause-stopped : goal.returns-in-Ok-Serve-clause-stopped
returns-in-Ok-Serve-clause-stopped g c = λ early usage settings asks.
    let same = same_settings _ c.in-Ok-Serve.settings settings (rw c.in-Ok-Serve.field-0-is at c.in-Ok-Serve.ensures.ok) asks in
    rw c.of_server.ensures (rw same at (stopped_by c.serve.result _ _ _ _ _ c.serve.ensures.err (rw c.of_server.ensures at early)))

pub returns-in-Err-Usage-clause-prefix : goal.returns-in-Err-Usage-clause-prefix
returns-in-Err-Usage-clause-prefix g c = λ asks. untouched _ _

pub returns-in-Err-OutOfMemory-clause-prefix : goal.returns-in-Err-OutOfMemory-clause-prefix
returns-in-Err-OutOfMemory-clause-prefix g c = λ asks. untouched _ _

pub returns-in-Err-OutOfMemory-clause-stopped : goal.returns-in-Err-OutOfMemory-clause-stopped
returns-in-Err-OutOfMemory-clause-stopped g c = λ early usage settings asks. record { why = OutOfMemory; status_is = refl; stops = inl refl }

pub returns-in-Ok-Load-clause-loaded : goal.returns-in-Ok-Load-clause-loaded
returns-in-Ok-Load-clause-loaded g c = λ done settings asks.
    let same = same_load _ c.in-Ok-Load.settings settings (rw c.in-Ok-Load.field-0-is at c.in-Ok-Load.ensures.ok) asks in
    rw same at (written_if c.load.result _ c.load.ensures.ok (sym c.of_written.ensures ∙ done))

pub returns-in-Ok-Load-clause-begins_line : goal.returns-in-Ok-Load-clause-begins_line
returns-in-Ok-Load-clause-begins_line g c = λ settings asks.
    let same = same_load _ c.in-Ok-Load.settings settings (rw c.in-Ok-Load.field-0-is at c.in-Ok-Load.ensures.ok) asks in
    rw same at (begins c.load.result _ _ _ c.load.ensures.ok c.load.ensures.err)

pub returns-in-Ok-Load-clause-ends_load : goal.returns-in-Ok-Load-clause-ends_load
returns-in-Ok-Load-clause-ends_load g c = λ settings asks. rw c.of_written.ensures (ends_load c.load.result)

pub returns-in-Ok-Load-clause-complete_load : goal.returns-in-Ok-Load-clause-complete_load
returns-in-Ok-Load-clause-complete_load g c = λ settings asks taken no_fault memory.
    rw c.of_written.ensures (done_unless c.load.result _ c.load.ensures.failed no_fault (rw c.of_written.ensures at memory))

pub returns-in-Err-Usage-clause-begins_line : goal.returns-in-Err-Usage-clause-begins_line
returns-in-Err-Usage-clause-begins_line g c = λ settings asks. nothing _ _

pub returns-in-Err-OutOfMemory-clause-begins_line : goal.returns-in-Err-OutOfMemory-clause-begins_line
returns-in-Err-OutOfMemory-clause-begins_line g c = λ settings asks. nothing _ _

pub returns-in-Ok-Show-clause-shown : goal.returns-in-Ok-Show-clause-shown
returns-in-Ok-Show-clause-shown g c = λ done page asks.
    let same = same_page _ c.in-Ok-Show.page page (rw c.in-Ok-Show.field-0-is at c.in-Ok-Show.ensures.ok) asks in
    written_text c.write_all.result _ _ _ _ (c.as_bytes.ensures.value ∙ c.text.ensures ∙ ap page_text same) c.write_all.ensures.ok (sym c.of_written-in-Ok-Show.ensures ∙ done)

pub returns-in-Ok-Show-clause-begins_page : goal.returns-in-Ok-Show-clause-begins_page
returns-in-Ok-Show-clause-begins_page g c = λ page asks.
    let same = same_page _ c.in-Ok-Show.page page (rw c.in-Ok-Show.field-0-is at c.in-Ok-Show.ensures.ok) asks in
    begins_text c.write_all.result _ _ _ _ (c.as_bytes.ensures.value ∙ c.text.ensures ∙ ap page_text same) c.write_all.ensures.ok c.write_all.ensures.err

pub returns-in-Ok-Show-clause-ends_page : goal.returns-in-Ok-Show-clause-ends_page
returns-in-Ok-Show-clause-ends_page g c = λ page asks. rw c.of_written-in-Ok-Show.ensures (ends_page c.write_all.result)

pub returns-in-Ok-Show-clause-complete_page : goal.returns-in-Ok-Show-clause-complete_page
returns-in-Ok-Show-clause-complete_page g c = λ page asks no_fault memory.
    rw c.of_written-in-Ok-Show.ensures (done_unless c.write_all.result _ c.write_all.ensures.failed no_fault (rw c.of_written-in-Ok-Show.ensures at memory))

pub returns-in-Err-Usage-clause-begins_page : goal.returns-in-Err-Usage-clause-begins_page
returns-in-Err-Usage-clause-begins_page g c = λ page asks. nothing _ _

pub returns-in-Err-OutOfMemory-clause-begins_page : goal.returns-in-Err-OutOfMemory-clause-begins_page
returns-in-Err-OutOfMemory-clause-begins_page g c = λ page asks. nothing _ _
