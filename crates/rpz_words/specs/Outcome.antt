-- What reading gives: a value, or the first fault.
use Rattle.std.specs.Prelude.{◌≡◌, Bool, if◌then◌else◌, Result, Ok, Err}
use Rattle.rpz_words.specs.declared.usage_cause.UsageCause.{UsageCause}
use Rattle.rpz_words.specs.declared.words_error.WordsError.{WordsError}
use Rattle.rpz_words.specs.declared.words_error.WordsError.TheVariants.{OutOfMemory, Usage}

-- a fault where the test holds
abbrev pub cause_if : {E : Type 0} → Bool → E → Result (Unit {0}) E
cause_if test fault = if test then Err fault else Ok tt

-- the value, or what is said of the fault
abbrev pub or_said : {A E F : Type 0} → (E → F) → Result A E → Result A F
or_said say (Ok x) = Ok x
or_said say (Err fault) = Err (say fault)

-- What a function returned is the value that reading gives, and else its cause, unless memory ran out.
abbrev pub Fails : {A : Type 0} → WordsError → Result A UsageCause → Type 0
Fails OutOfMemory read = Unit {0}
Fails (Usage cause) read = read ≡ Err cause

abbrev pub Gives : {A : Type 0} → Result A WordsError → Result A UsageCause → Type 0
Gives (Ok x) read = read ≡ Ok x
Gives (Err e) read = Fails e read
