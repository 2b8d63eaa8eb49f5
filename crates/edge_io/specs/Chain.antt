-- Turns that lead from one state to another.
use Rattle.std.specs.Prelude.{◌≡◌, List, [], ◌∷◌}

-- A turn, and the state before it; a list of these is a run.
pub record Stage (X T : Type 0) : Type 0 where
  pub turn : T
  pub before : X

-- these turns lead from the first state to the last one, each by a step; the last turn stands first
abbrev pub Chain : {X T : Type 0} → (X → T → X → Type 0) → X → List (Stage X T) → X → Type 0
Chain step first [] last = last ≡ first
Chain step first (s ∷ ss) last = step s.before s.turn last × Chain step first ss s.before
