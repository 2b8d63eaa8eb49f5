-- Scans over entries.
use Rattle.std.proofs.Common.{Bool, cond, List, [], ◌∷◌, Option, Some, None}

-- the first of two that is there
abbrev pub option_else : {X : Type 0} → Option X → Option X → Option X
option_else None other = other
option_else (Some x) other = Some x

-- the entry of a key that may have a value, as a list
abbrev pub own : {K V : Type 0} → K → Option V → List (K × V)
own key None = []
own key (Some v) = (key, v) ∷ []

-- the last entry that passes
abbrev pub last_where : {X : Type 0} → (X → Bool) → List X → Option X
last_where test [] = None
last_where test (e ∷ es) = option_else (last_where test es) (cond (test e) (Some e) None)
