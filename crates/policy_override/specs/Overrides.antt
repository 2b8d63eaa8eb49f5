-- The overrides of the zones of a policy, the first of them that of zone 1.
use Rattle.std.specs.Prelude.{ℕ, ◌-◌, ◌==◌, if◌then◌else◌, List, Option, Some, None, slice_get}
use Rattle.policy_override.specs.declared.overrides.Override.{Override}
use Rattle.policy_override.specs.declared.overrides.Override.TheVariants.{Given}

-- the override, where there is one; otherwise each rule does what its zone says
abbrev pub given_or : Option Override → Override
given_or None = Given
given_or (Some over) = over

-- the override of the zone of a number; the first is zone 1
abbrev pub over_at : List Override → ℕ → Override
over_at overrides number =
    given_or (if number == 0 then None else slice_get overrides (number - 1))
