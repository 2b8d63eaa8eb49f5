-- A name in full, with more behind it.
use Rattle.std.specs.Prelude.{◌≡◌, ℕ, List, ◌++◌}
use Rattle.dns_name.specs.Labels.{IsName, name_octets, Name}

pub record BeginsWithName (octets : List ℕ) : Type 0 where
  pub name : Name
  pub rest : List ℕ
  pub is : IsName name
  pub whole : octets ≡ name_octets name ++ rest
