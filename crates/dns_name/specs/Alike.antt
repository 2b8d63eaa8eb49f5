-- Which names are alike, and which end with others. The case of ASCII letters doesn't count (RFC 1035, section 2.3.3).
use Rattle.std.specs.Prelude.{ℕ, Bool, not, ◌&&◌, if◌then◌else◌, List}
use Rattle.std.specs.Cmp.Lexicographic.{pointwise}
use Rattle.std.specs.List as lists
use Rattle.std.specs.Str.{bytes_eq}
use Rattle.dns_name.specs.Labels.{lowered, Name}

-- the names are alike
abbrev pub same_name : Name → Name → Bool
same_name a b = pointwise bytes_eq (lowered a) (lowered b)

-- the name ends with the labels of the zone's name: it is that name or lies below it (RFC 1034, section 3.1)
abbrev pub ends_with : Name → Name → Bool
ends_with name zone = lists.ends_with bytes_eq (lowered name) (lowered zone)

-- A pattern matches its base, or all names below its base and not the base itself (draft-vixie-dnsop-dns-rpz, section 4.2).
pub record PlainPattern : Type 0 where
  pub base : Name
  pub wild : Bool

-- the pattern matches this name
abbrev pub matches : PlainPattern → Name → Bool
matches pattern name =
    if pattern.wild then ends_with name pattern.base && not (same_name name pattern.base)
    else same_name name pattern.base
