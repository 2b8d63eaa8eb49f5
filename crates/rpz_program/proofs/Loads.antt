-- How load runs and pages end.
use Rattle.std.proofs.Common.{◌≡◌, ◌≢◌, ℕ, List, length, Option, Some, Result, Ok, Err, refl, sym, ap, subst, ◌∙◌, arith}
use Rattle.std.specs.Prelude.{OnErr, OnOk}
use Rattle.std.proofs.lemmas.List.{take_all}
use Rattle.edge_io.specs.Edge.{WritesPrefix, appended}
use Rattle.edge_io.specs.declared.edge.SinkError.{SinkError}
use Rattle.edge_io.specs.declared.edge.SinkError.TheVariants as error
use Rattle.edge_io.proofs.Edges.{appended-nil}
use Rattle.rpz_words.specs.declared.command.Command.{Command}
use Rattle.rpz_words.specs.declared.command.Command.TheVariants.{Load, Show}
use Rattle.rpz_words.specs.declared.pages.Page.{Page}
use Rattle.rpz_words.specs.declared.settings.LoadSettings.{LoadSettings}
use Rattle.rpz_words.specs.declared.usage_cause.UsageCause.{UsageCause}
use Rattle.rpz_program.specs.Loading.{EndsLoad}
use Rattle.rpz_program.specs.Run.{EndsPage}
use Rattle.rpz_program.specs.Status.{status_of_written}
use Rattle.rpz_program.specs.declared.status.Status.TheVariants as status

-- words ask for one load run
pub same_load : (asked : Result Command UsageCause) (one other : LoadSettings) → asked ≡ Ok (Load one) → asked ≡ Ok (Load other) → one ≡ other
same_load asked one other first second = cc

-- words ask for one page
pub same_page : (asked : Result Command UsageCause) (one other : Page) → asked ≡ Ok (Show one) → asked ≡ Ok (Show other) → one ≡ other
same_page asked one other first second = cc

pub written_if : (ended : Result (Unit {0}) SinkError) (Q : Type 0) → OnOk ended Q → status_of_written ended ≡ status.Done → Q
written_if (Ok done) Q q e = q
written_if (Err error.WriteFault) Q q e = absurd cc
written_if (Err error.OutOfMemory) Q q e = absurd cc

pub begins : (ended : Result (Unit {0}) SinkError) (line : List ℕ) (before after : Option (List ℕ)) → OnOk ended (after ≡ appended before line)
    → OnErr ended (WritesPrefix line before after) → WritesPrefix line before after
begins (Ok done) line before after whole part = (length line, whole ∙ ap (appended before) (sym (take_all (length line) line (omega arith))))
begins (Err error) line before after whole part = part

-- the same, of a text that the written bytes are
pub written_text : (ended : Result (Unit {0}) SinkError) (line text : List ℕ) (before after : Option (List ℕ)) → line ≡ text → OnOk ended (after ≡ appended before line) → status_of_written ended ≡ status.Done → after ≡ appended before text
written_text (Ok done) line text before after is whole e = whole ∙ ap (appended before) is
written_text (Err error.WriteFault) line text before after is whole e = absurd cc
written_text (Err error.OutOfMemory) line text before after is whole e = absurd cc

pub begins_text : (ended : Result (Unit {0}) SinkError) (line text : List ℕ) (before after : Option (List ℕ)) → line ≡ text → OnOk ended (after ≡ appended before line)
    → OnErr ended (WritesPrefix line before after) → WritesPrefix text before after
begins_text ended line text before after is whole part = subst (λ (bytes : List ℕ). WritesPrefix bytes before after) is (begins ended line before after whole part)

-- nothing was written
pub nothing : (line : List ℕ) (held : Option (List ℕ)) → WritesPrefix line held held
nothing line held = (0, sym (appended-nil held))

pub ends_load : (ended : Result (Unit {0}) SinkError) → EndsLoad (status_of_written ended)
ends_load (Ok done) = tt
ends_load (Err error.WriteFault) = tt
ends_load (Err error.OutOfMemory) = tt

pub ends_page : (ended : Result (Unit {0}) SinkError) → EndsPage (status_of_written ended)
ends_page (Ok done) = tt
ends_page (Err error.WriteFault) = tt
ends_page (Err error.OutOfMemory) = tt

pub failed_if : (ended : Result (Unit {0}) SinkError) (sink : Type 0) → (ended ≡ Err error.WriteFault → sink) → status_of_written ended ≡ status.WriteFault → sink
failed_if (Ok done) sink h e = absurd cc
failed_if (Err error.WriteFault) sink h e = h refl
failed_if (Err error.OutOfMemory) sink h e = absurd cc

pub done_unless : (ended : Result (Unit {0}) SinkError) (sink : Type 0) → (ended ≡ Err error.WriteFault → sink) → (sink → ⊥) → status_of_written ended ≢ status.OutOfMemory
    → status_of_written ended ≡ status.Done
done_unless (Ok done) sink h none memory = refl
done_unless (Err error.WriteFault) sink h none memory = absurd (none (h refl))
done_unless (Err error.OutOfMemory) sink h none memory = absurd (memory refl)
