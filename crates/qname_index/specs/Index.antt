-- What is true of each key of a map from patterns.
use Rattle.std.specs.Prelude.{◌≡◌}
use Rattle.dns_name.specs.Alike.{PlainPattern}
use Rattle.dns_name.specs.Labels.{IsName, lowered}

-- a pattern's base is a name in lower case
pub record IsKey (pattern : PlainPattern) : Type 0 where
  pub name : IsName pattern.base
  pub lower_case : lowered pattern.base ≡ pattern.base
