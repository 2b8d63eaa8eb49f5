-- What reading gives: a value, or why the line is refused.
use Rattle.std.specs.Prelude.{◌≡◌, ℕ, Bool, Result, Ok, Err, if◌then◌else◌}
use Rattle.script_codec.specs.declared.line_fault.LineFault.{LineFault}
use Rattle.script_codec.specs.declared.line_fault.LineError.{LineError}
use Rattle.script_codec.specs.declared.line_fault.LineError.TheVariants as errors
use Rattle.script_codec.specs.declared.line_fault.UnnumberedError.{UnnumberedError}
use Rattle.script_codec.specs.declared.line_fault.UnnumberedError.TheVariants as read_errors

-- refused for this reason where the test holds
abbrev pub refuse_if : Bool → LineFault → Result (Unit {0}) LineFault
refuse_if test why = if test then Err why else Ok tt

-- What a function returned, seen by view, is what reading gives.
abbrev pub Reads : {X Y : Type 0} → (X → Y) → Result X LineFault → Result Y LineFault → Type 0
Reads view (Ok x) read = read ≡ Ok (view x)
Reads view (Err why) read = read ≡ Err why

-- The same of a value, unless memory ran out.
abbrev pub Fails : {A : Type 0} → UnnumberedError → Result A LineFault → Type 0
Fails read_errors.OutOfMemory read = Unit {0}
Fails (read_errors.Refused why) read = read ≡ Err why

abbrev pub Gives : {A : Type 0} → Result A UnnumberedError → Result A LineFault → Type 0
Gives (Ok x) read = read ≡ Ok x
Gives (Err e) read = Fails e read

-- The same for a line of this number, by which a refusal names it.
abbrev pub LineFails : {A : Type 0} → ℕ → LineError → Result A LineFault → Type 0
LineFails number errors.OutOfMemory read = Unit {0}
LineFails number (errors.BadLine bad) read = (bad.line ≡ number) × (read ≡ Err bad.why)

abbrev pub LineGives : {A : Type 0} → ℕ → Result A LineError → Result A LineFault → Type 0
LineGives number (Ok x) read = read ≡ Ok x
LineGives number (Err e) read = LineFails number e read
