-- What is true of a name that is looked up.
use Rattle.std.specs.Prelude.{◌≡◌, ℕ, List}
use Rattle.dns_name.specs.Labels.{Name, lowered}
use Rattle.qname_index.specs.Key.{name_key}

-- the name is in lower case, and the octets are its key
pub record IsLookup (name : Name) (octets : List ℕ) : Type 0 where
  pub lower : lowered name ≡ name
  pub key : octets ≡ name_key name
