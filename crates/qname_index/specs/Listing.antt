-- Entries in the canonical order of their bases.
use Rattle.std.specs.Prelude.{List}
use Rattle.std.specs.List.Sorted.{IsPermutation, IsSortedBy}
use Rattle.std.specs.Ordering.{bool_cmp, is_lt, ordering_then}
use Rattle.std.specs.declared.cmp.Ordering.{Ordering}
use Rattle.dns_name.specs.Alike.{PlainPattern}
use Rattle.dns_name.specs.Order.{canonical_order}

-- the canonical order of bases (RFC 4034, section 6.1), an exact pattern before the wild one of the same base
abbrev pub listing_order : PlainPattern → PlainPattern → Ordering
listing_order p q = ordering_then (canonical_order p.base q.base) (bool_cmp p.wild q.wild)

-- the same entries, in that order
pub record AreListed {V : Type 0} (entries listed : List (PlainPattern × V)) : Type 0 where
  pub same : IsPermutation entries listed
  pub sorted : IsSortedBy (λ x y. is_lt (listing_order x.0 y.0)) listed
