-- How runs end, by their statuses.
use Rattle.std.proofs.Common.{◌≡◌, ◌≢◌, ℕ, List, Option, Some, None, Result, Ok, Err, refl, sym, subst, ◌∙◌, arith}
use Rattle.std.specs.Prelude.{IfErr, IfSome, IsOk, OnErr}
use Rattle.edge_io.specs.Edge.{Rose}
use Rattle.script_codec.specs.declared.line_fault.LineFault.{LineFault}
use Rattle.script_loop.specs.Replay.{Blames}
use Rattle.script_loop.specs.declared.replay.Stop.{Stop}
use Rattle.script_loop.specs.declared.replay.Stop.TheVariants as stop
use Rattle.rpz_words.specs.declared.command.Command.{Command}
use Rattle.rpz_words.specs.declared.command.Command.TheVariants.{Serve}
use Rattle.rpz_words.specs.declared.settings.Settings.{Settings}
use Rattle.rpz_words.specs.declared.usage_cause.UsageCause.{UsageCause}
use Rattle.rpz_program.specs.Run.{Ends, IsVerdict, StopsBy}
use Rattle.rpz_program.specs.Script.{ScriptWorld, script_verdict}
use Rattle.rpz_program.specs.Serving.{Gathering, StopsServing}
use Rattle.rpz_program.specs.Status.{status_of_replay, status_of_server, status_of_stop}
use Rattle.rpz_program.specs.Turns.{ServerStart}
use Rattle.rpz_program.specs.declared.serve_error.ServeError.{ServeError}
use Rattle.rpz_program.specs.declared.status.Status.{Status}
use Rattle.rpz_program.specs.declared.status.Status.TheVariants as status

-- a bad line comes of the script's stop
pub bad_line_of : (ended : Result (Unit {0}) (Stop LineFault)) (line : ℕ) (why : LineFault) → status_of_replay ended ≡ status.BadLine line why → ended ≡ Err (stop.BadLine line why)
bad_line_of (Ok done) line why e = cc
bad_line_of (Err (stop.BadLine other cause)) line why e = cc
bad_line_of (Err stop.ReadFault) line why e = cc
bad_line_of (Err stop.WriteFault) line why e = cc
bad_line_of (Err stop.OutOfMemory) line why e = cc

done_is : (world : Result (ℕ × ScriptWorld) (ℕ × LineFault)) → IsOk world → IsVerdict world status.Done
done_is (Ok end) ok = refl
done_is (Err bad) ok = cc

-- without a fault and with memory, the status is the verdict
pub verdict_is : (ended : Result (Unit {0}) (Stop LineFault)) (left_before left_after held_before held_after : Option (List ℕ)) (source sink : Type 0) → Ends ended left_before left_after held_before held_after → IfErr ended (λ why. Blames why source sink) → (source → ⊥) → (sink → ⊥) → status_of_replay ended ≢ status.OutOfMemory
    → IfSome left_before (λ bytes. IsVerdict (script_verdict bytes) (status_of_replay ended))
verdict_is ended None left_after held_before held_after source sink ends blames no_source no_sink memory = tt
verdict_is (Ok done) (Some script) left_after held_before held_after source sink ends blames no_source no_sink memory = done_is (script_verdict script) ends.1
verdict_is (Err (stop.BadLine line why)) (Some script) left_after held_before held_after source sink ends blames no_source no_sink memory =
    let P : Result (ℕ × ScriptWorld) (ℕ × LineFault) → Type 0 = λ world. IsVerdict world (status.BadLine line why) in
    subst P (sym ends.0) refl
verdict_is (Err stop.ReadFault) (Some script) left_after held_before held_after source sink ends blames no_source no_sink memory = absurd (no_source blames)
verdict_is (Err stop.WriteFault) (Some script) left_after held_before held_after source sink ends blames no_source no_sink memory = absurd (no_sink blames)
verdict_is (Err stop.OutOfMemory) (Some script) left_after held_before held_after source sink ends blames no_source no_sink memory = absurd (memory refl)

-- no count has risen that is 0
not_risen : Rose 0 0 → ⊥
not_risen rose = omega (arith, rose)

-- where no fault is known of the source and the sink, and with memory, a script in memory ends as its verdict says
pub verdict_of : (stopped : Stop LineFault) (source script : List ℕ) (left_after held_before held_after : Option (List ℕ)) → source ≡ script → Ends (Err stopped) (Some source) left_after held_before held_after
    → Blames stopped (Rose 0 0) (Rose 0 0) → (given : Status) → given ≡ status_of_stop stopped → given ≢ status.OutOfMemory → IsVerdict (script_verdict script) given
verdict_of stopped source script left_after held_before held_after same ends blames given is memory =
    let ended : IsVerdict (script_verdict source) (status_of_stop stopped) =
    verdict_is (Err stopped) (Some source) left_after held_before held_after (Rose 0 0) (Rose 0 0) ends blames not_risen not_risen (λ e. memory (is ∙ e)) in
    subst (λ (bytes : List ℕ). IsVerdict (script_verdict bytes) given) same (subst (IsVerdict (script_verdict source)) (sym is) ended)

-- a server that stopped early has the status of why it did
pub stopped_by : (ended : Result (Unit {0}) ServeError) (start : ServerStart) (turns : Option ℕ) (gathering : Gathering) (before after : Option (List ℕ)) → OnErr ended (StopsServing start turns gathering before after) → status_of_server ended ≢ status.Done
    → StopsBy (status_of_server ended) start turns gathering before after
stopped_by (Ok done) start turns gathering before after stops early = absurd (early refl)
stopped_by (Err why) start turns gathering before after stops early = record { why = why; status_is = refl; stops = stops }

-- words ask for one server
pub same_settings : (asked : Result Command UsageCause) (one other : Settings) → asked ≡ Ok (Serve one) → asked ≡ Ok (Serve other) → one ≡ other
same_settings asked one other first second = cc
