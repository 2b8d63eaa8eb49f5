-- Values that may be missing, one behind another.
use Rattle.std.specs.Prelude.{Bool, if◌then◌else◌, Option, Some, None}

-- what follows a value, if there is one
infixl 10 ◌>>=◌
abbrev pub ◌>>=◌ : {A B : Type 0} → Option A → (A → Option B) → Option B
None >>= f = None
(Some x) >>= f = f x

-- nothing where the test holds
abbrev pub none_if : Bool → Option (Unit {0})
none_if test = if test then None else Some tt
