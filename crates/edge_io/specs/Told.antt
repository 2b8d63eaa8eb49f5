-- What is known of a program's outside: `None` stands for what isn't known, as over sockets.
use Rattle.std.specs.Prelude.{◌≡◌, ℕ, List, [], ◌∷◌, ◌++◌, Option, Some, None, Result, Ok, Err}

-- one more at the end, where the list is known
abbrev pub one_more : {A : Type 0} → Option (List A) → A → Option (List A)
one_more None x = None
one_more (Some xs) x = Some (xs ++ x ∷ [])

-- one more where there is one
abbrev pub maybe_more : {A : Type 0} → Option (List A) → Option A → Option (List A)
maybe_more told None = told
maybe_more told (Some x) = one_more told x

-- one more where the call gave no error
abbrev pub more_if_ok : {A E : Type 0} → Option (List A) → Result (Unit {0}) E → A → Option (List A)
more_if_ok told (Ok done) x = one_more told x
more_if_ok told (Err e) x = told

-- The next second of a clock, or the next ID, if those to come are known; zeros after the last.
abbrev pub ComesNext : Option (List ℕ) → ℕ → Option (List ℕ) → Type 0
ComesNext None x after = after ≡ None
ComesNext (Some []) x after = (x ≡ 0) × (after ≡ Some [])
ComesNext (Some (y ∷ ys)) x after = (x ≡ y) × (after ≡ Some ys)
