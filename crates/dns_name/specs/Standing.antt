-- What stands at a place of a message.
use Rattle.std.specs.Prelude.{◌≡◌, ℕ, ◌+◌, List, length, take, drop}

-- These octets stand at a place of a message, and that is the place after them.
pub record Stands (octets message : List ℕ) (at after : ℕ) : Type 0 where
  pub begins : take (length octets) (drop at message) ≡ octets
  pub ends : after ≡ at + length octets
