-- Strings of octets in one list, each of which stands in one block.
use Rattle.std.specs.Prelude.{◌≡◌, ℕ, ◌+◌, ◌≤◌, ◌%◌, List, ◌++◌, length}

-- so many octets from the place on are there, and stand in one block of 4,096
pub record StandsWhole (octets : List ℕ) (place count : ℕ) : Type 0 where
  pub there : place + count ≤ length octets
  pub whole : place % 4096 + count ≤ 4096

-- the string came behind what was there, with octets between that fill a block up, and begins at the place
pub record IsPut (old new string : List ℕ) (place : ℕ) : Type 0 where
  pub fill : List ℕ
  pub list : new ≡ old ++ (fill ++ string)
  pub start : place ≡ length old + length fill
  pub stands : StandsWhole new place (length string)

-- a whole block that begins with the octets
pub record IsFilled (octets block : List ℕ) : Type 0 where
  pub fill : List ℕ
  pub list : block ≡ octets ++ fill
  pub whole : length block ≡ 4096
