-- Groups, as the number that they make and how many they are: what code keeps of them.
use Rattle.std.specs.Prelude.{ℕ, ◌+◌, ◌-◌, ◌*◌, ◌^◌, ◌<◌, ◌≤◌, ◌==◌, if◌then◌else◌, nat_lt, List, [], ◌∷◌, Option, Some, None}
use Rattle.networks.specs.declared.groups.Groups.{Groups}
use Rattle.networks.specs.Optional.{◌>>=◌}

-- at most eight groups of 16 bits
pub record AreFew (groups : Groups) : Type 0 where
  pub few : groups.count ≤ 8
  pub fits : groups.number < 2 ^ (16 * groups.count)

-- none
abbrev pub no_groups : Groups
no_groups = record { number = 0; count = 0 }

-- one more, if there are fewer than eight
abbrev pub with_group : Groups → ℕ → Option Groups
with_group groups group =
    if nat_lt groups.count 8
    then Some (record { number = groups.number * 65536 + group; count = groups.count + 1 })
    else None

-- more of them, if they are eight at most
abbrev pub with_groups : Groups → List ℕ → Option Groups
with_groups groups [] = Some groups
with_groups groups (group ∷ rest) = do
  more ← with_group groups group
  with_groups more rest

-- the number of eight groups
abbrev pub whole_number : Groups → Option ℕ
whole_number groups = if groups.count == 8 then Some groups.number else None

-- the number of eight groups, of which those between are zeros, and one at least
abbrev pub filled_number : Groups → Groups → Option ℕ
filled_number before after =
    if nat_lt 7 (before.count + after.count) then None
    else Some (before.number * 2 ^ (128 - 16 * before.count) + after.number)
