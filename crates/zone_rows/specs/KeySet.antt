-- A set of keys, each a list of bytes.
use Rattle.std.specs.Prelude.{ℕ, Bool, List}
use Rattle.std.specs.List.{list_any}
use Rattle.std.specs.Str.{bytes_eq}

-- the key is among the keys
abbrev pub has_key : List (List ℕ) → List ℕ → Bool
has_key keys key = list_any (bytes_eq key) keys
