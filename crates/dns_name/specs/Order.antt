-- The canonical order of names (RFC 4034, section 6.1).
use Rattle.std.specs.Prelude.{ℕ, List, map, reverse}
use Rattle.std.specs.Char.{to_ascii_lowercase}
use Rattle.std.specs.Cmp.Lexicographic.{slice_cmp}
use Rattle.std.specs.Ordering.{nat_cmp}
use Rattle.std.specs.declared.cmp.Ordering.{Ordering}
use Rattle.dns_name.specs.Labels.{Name}

-- labels compare as bytes, in lower case
abbrev pub label_order : List ℕ → List ℕ → Ordering
label_order a b = slice_cmp nat_cmp (map to_ascii_lowercase a) (map to_ascii_lowercase b)

-- names compare label by label from the last on, and a name comes before those below it
abbrev pub canonical_order : Name → Name → Ordering
canonical_order a b = slice_cmp label_order (reverse a) (reverse b)
