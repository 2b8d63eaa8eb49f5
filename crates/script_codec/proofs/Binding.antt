-- What is read isn't refused.
use Rattle.std.proofs.Common.{◌≡◌, Bool, true, false, Result, Ok, Err, refl}
use Rattle.script_codec.specs.declared.line_fault.LineFault.{LineFault}
use Rattle.script_codec.specs.Outcome.{refuse_if}

pub not_refused : (test : Bool) (why : LineFault) (u : Unit {0}) → refuse_if test why ≡ Ok u → test ≡ false
not_refused true why u e = absurd cc
not_refused false why u e = refl
