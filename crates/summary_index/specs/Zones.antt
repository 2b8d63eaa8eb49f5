-- Sets of zones as numbers, whose lowest bit stands for zone 1.
use Rattle.std.specs.Prelude.{ℕ, ◌-◌, ◌^◌, ◌==◌, Bool, bit_and}
use Rattle.std.specs.Int.{bit_at, bit_not, w64}

-- the zone of this number, from 1 on, is one of them
abbrev pub has_zone : ℕ → ℕ → Bool
has_zone zones number = bit_at zones (number - 1) == 1

-- the zones without that of a number
abbrev pub zones_without : ℕ → ℕ → ℕ
zones_without number zones = bit_and zones (bit_not w64 (2 ^ (number - 1)))
