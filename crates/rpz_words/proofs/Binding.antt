-- Results that follow one another, taken apart.
use Rattle.std.proofs.Common.{◌≡◌, Bool, true, false, Option, Some, None, Result, Ok, Err, refl}
use Rattle.std.specs.Option.{ok_or}
use Rattle.rpz_words.specs.Outcome.{cause_if, or_said}

-- there is no fault only where the test doesn't hold
pub no_fault_of : {E : Type 0} (test : Bool) (fault : E) (u : Unit {0}) → cause_if test fault ≡ Ok u → test ≡ false
no_fault_of true fault u e = absurd cc
no_fault_of false fault u e = refl

-- a value that may be missing is there
pub is_there : {A E : Type 0} (o : Option A) (fault : E) (x : A) → ok_or o fault ≡ Ok x → o ≡ Some x
is_there (Some y) fault x e = cc
is_there None fault x e = absurd cc

-- what is said of a fault takes nothing from a value
pub unsaid : {A E F : Type 0} (say : E → F) (r : Result A E) (x : A) → or_said say r ≡ Ok x → r ≡ Ok x
unsaid say (Ok y) x e = cc
unsaid say (Err fault) x e = absurd cc
