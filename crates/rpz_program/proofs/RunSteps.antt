-- How a replay ends, in terms of the script's world.
use Rattle.std.proofs.Common.{◌≡◌, ℕ, List, [], Option, Some, None, Result, Ok, Err, refl, sym, ap, subst, ◌∙◌}
use Rattle.std.specs.Prelude.{IsOk, IsOkAnd}
use Rattle.edge_io.specs.Edge.{appended}
use Rattle.edge_io.proofs.Edges.{prepended-nil, appended-nil}
use Rattle.script_loop.specs.declared.replay.Stop.{Stop}
use Rattle.script_loop.specs.declared.replay.Stop.TheVariants.{BadLine, ReadFault, WriteFault, OutOfMemory}
use Rattle.script_codec.specs.declared.line_fault.LineFault.{LineFault}
use Rattle.script_loop.specs.Abstraction.{run_along, verdict_along}
use Rattle.script_loop.specs.Fold as fold
use Rattle.script_loop.specs.Fold.{Run, run_of}
use Rattle.script_loop.specs.Lines.{whole_lines}
use Rattle.rpz_program.specs.declared.stage.Stage.{Stage}
use Rattle.rpz_program.specs.Stage.{new_stage, stage_of, stage_step}
use Rattle.script_loop.specs.Replay as replay
use Rattle.script_loop.specs.Replay.{IsPrefix, Moves}
use Rattle.rpz_program.specs.Run.{Ends, AnswersWholeLines, BeginsTranscript}
use Rattle.rpz_program.specs.Script.{ScriptWorld, start, step, too_many, too_long, script_transcript, script_verdict}
use Rattle.script_loop.proofs.Abstraction.{run_of-along, transcript-along, verdict-along}
use Rattle.rpz_program.proofs.Simulation.{step_seen, start_seen}

same_transcript : (script : List ℕ) → fold.transcript too_many too_long stage_step new_stage script ≡ script_transcript script
same_transcript script = ap (λ (p : Stage). fold.transcript too_many too_long stage_step p script) (sym start_seen) ∙ transcript-along too_many too_long stage_of step stage_step step_seen start script

same_verdict : (script : List ℕ) → fold.verdict too_many too_long stage_step new_stage script ≡ verdict_along stage_of (script_verdict script)
same_verdict script = ap (λ (p : Stage). fold.verdict too_many too_long stage_step p script) (sym start_seen) ∙ verdict-along too_many too_long stage_of step stage_step step_seen start script

same_run : (lines : List (List ℕ)) → run_of too_many too_long stage_step (1, new_stage) lines ≡ run_along stage_of (run_of too_many too_long step (1, start) lines)
same_run lines = ap (λ (p : Stage). run_of too_many too_long stage_step (1, p) lines) (sym start_seen) ∙ run_of-along too_many too_long stage_of step stage_step step_seen (1, start) lines

ok_along : (v : Result (ℕ × ScriptWorld) (ℕ × LineFault)) (P : ℕ × Stage → Type 0) → IsOkAnd (verdict_along stage_of v) P → IsOk v
ok_along (Ok end) P h = refl
ok_along (Err bad) P h = absurd h

err_along : (v : Result (ℕ × ScriptWorld) (ℕ × LineFault)) (bad : ℕ × LineFault) (r : Result (ℕ × Stage) (ℕ × LineFault)) → r ≡ verdict_along stage_of v → r ≡ Err bad → v ≡ Err bad
err_along (Ok end) bad r e f = absurd cc
err_along (Err other) bad r e f = cc

abbrev StageRun : Type 0
StageRun = Run Stage LineFault

abbrev ScriptRun : Type 0
ScriptRun = Run ScriptWorld LineFault

pair_is : (run : ScriptRun) (written : List ℕ) (v : Result (ℕ × ScriptWorld) (ℕ × LineFault)) → run.0 ≡ written → run.1 ≡ v → run ≡ (written, v)
pair_is run written v e f = ap (λ (o : List ℕ). let r : ScriptRun = (o, run.1) in r) e ∙ ap (λ (u : Result (ℕ × ScriptWorld) (ℕ × LineFault)). let r : ScriptRun = (written, u) in r) f

no_state : (bad : ℕ × LineFault) (end : ℕ × Stage) (v : Result (ℕ × ScriptWorld) (ℕ × LineFault)) → v ≡ Err bad → verdict_along stage_of v ≡ Ok end → ⊥
no_state bad end (Ok e) s is = cc
no_state bad end (Err b) s is = cc

-- a run whose end is a state
ended_by : (run : ScriptRun) (v : Result (ℕ × ScriptWorld) (ℕ × LineFault)) (written : List ℕ) (end : ℕ × Stage) (core : StageRun) → run.1 ≡ v → core ≡ run_along stage_of run → core ≡ (written, Ok end) → (e : ℕ × ScriptWorld) × (run ≡ (written, Ok e))
ended_by run (Ok e) written end core s same is = (e, pair_is run written (Ok e) (ap (λ (r : StageRun). r.0) (sym same ∙ is)) s)
ended_by run (Err bad) written end core s same is = absurd (no_state bad end run.1 s (ap (λ (r : StageRun). r.1) (sym same ∙ is)))

read_along : (read written : List ℕ) → replay.AnswersWholeLines too_many too_long stage_step new_stage read written → AnswersWholeLines read written
read_along read written h = ended_by (run_of too_many too_long step (1, start) (whole_lines read)) (run_of too_many too_long step (1, start) (whole_lines read)).1 written h.0 (run_of too_many too_long stage_step (1, new_stage) (whole_lines read)) refl (same_run (whole_lines read)) h.1

begins_along : (read written : List ℕ) → replay.BeginsTranscript too_many too_long stage_step new_stage read written → BeginsTranscript read written
begins_along read written h = subst (IsPrefix written) (same_transcript read) h

moved_along : (P Q : List ℕ → List ℕ → Type 0) (left_before left_after held_before held_after : Option (List ℕ)) → ((read written : List ℕ) → P read written → Q read written) → Moves left_before left_after held_before held_after P → Moves left_before left_after held_before held_after Q
moved_along P Q left_before left_after held_before held_after go m = record { read = m.read; written = m.written; from_source = m.from_source; to_sink = m.to_sink; have = go m.read m.written m.have }

-- what was written begins the transcript of what was read
pub prefix_along : (left_before left_after held_before held_after : Option (List ℕ)) → Moves left_before left_after held_before held_after (replay.BeginsTranscript too_many too_long stage_step new_stage) → Moves left_before left_after held_before held_after BeginsTranscript
prefix_along left_before left_after held_before held_after = moved_along (replay.BeginsTranscript too_many too_long stage_step new_stage) BeginsTranscript left_before left_after held_before held_after begins_along

-- how it ends
pub ends_along : (result : Result (Unit {0}) (Stop LineFault)) (new : Stage) (left_before left_after held_before held_after : Option (List ℕ)) → replay.Ends too_many too_long stage_step result new_stage new left_before left_after held_before held_after → Ends result left_before left_after held_before held_after
ends_along (Ok u) new None left_after held_before held_after h = tt
ends_along (Ok u) new (Some script) left_after held_before held_after h =
    let ok = subst (λ (v : Result (ℕ × Stage) (ℕ × LineFault)). IsOkAnd v (λ end. end.1 ≡ new)) (same_verdict script) h.1 in
    (h.0, ok_along (script_verdict script) (λ end. end.1 ≡ new) ok, h.2 ∙ ap (appended held_before) (same_transcript script))
ends_along (Err (BadLine line why)) new None left_after held_before held_after h = tt
ends_along (Err (BadLine line why)) new (Some script) left_after held_before held_after h =
    (err_along (script_verdict script) (line, why) (fold.verdict too_many too_long stage_step new_stage script) (same_verdict script) h.0, h.1 ∙ ap (appended held_before) (same_transcript script))
ends_along (Err ReadFault) new left_before left_after held_before held_after h = moved_along (replay.AnswersWholeLines too_many too_long stage_step new_stage) AnswersWholeLines left_before left_after held_before held_after read_along h
ends_along (Err WriteFault) new left_before left_after held_before held_after h = tt
ends_along (Err OutOfMemory) new left_before left_after held_before held_after h = tt

-- nothing was read or written
pub untouched : (left held : Option (List ℕ)) → Moves left left held held BeginsTranscript
untouched left held = record { read = []; written = []; from_source = sym (prepended-nil left); to_sink = sym (appended-nil held); have = (script_transcript [], refl) }
