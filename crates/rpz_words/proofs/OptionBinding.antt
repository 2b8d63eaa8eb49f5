-- Values that may be missing, one behind another, taken apart.
use Rattle.std.proofs.Common.{◌≡◌, Bool, true, false, Option, Some, None, refl}
use Rattle.std.specs.Option.{option_and_then}
use Rattle.networks.specs.Optional.{◌>>=◌, none_if}

-- where the whole has a value, its first part has one, and what follows
pub bind_some : {A B : Type 0} (o : Option A) (f : A → Option B) (y : B) → o >>= f ≡ Some y → (x : A) × (o ≡ Some x) × (f x ≡ Some y)
bind_some (Some x) f y e = (x, refl, e)
bind_some None f y e = absurd cc

-- the same of the library's word
pub then_some : {A B : Type 0} (o : Option A) (f : A → Option B) (y : B) → option_and_then f o ≡ Some y → (x : A) × (o ≡ Some x) × (f x ≡ Some y)
then_some (Some x) f y e = (x, refl, e)
then_some None f y e = absurd cc

-- there is something only where the test doesn't hold
pub not_held : (test : Bool) (u : Unit {0}) → none_if test ≡ Some u → test ≡ false
not_held true u e = absurd cc
not_held false u e = refl

-- an option has one value
pub some_is : {A : Type 0} (x y : A) → (let o : Option A = Some x in o ≡ Some y) → x ≡ y
some_is x y e = cc
