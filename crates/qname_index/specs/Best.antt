-- A map from patterns, as the list of its entries in order of precedence, and what a look-up in it finds.
use Rattle.std.specs.Prelude.{ℕ, List, length, Option}
use Rattle.std.specs.List.{find}
use Rattle.std.specs.Cmp.Lexicographic.{slice_cmp}
use Rattle.std.specs.Ordering.{nat_cmp, bool_cmp, ordering_then}
use Rattle.std.specs.declared.cmp.Ordering.{Ordering}
use Rattle.dns_name.specs.Alike.{PlainPattern, matches}
use Rattle.dns_name.specs.Labels.{name_octets, Name}

-- Which of two patterns comes first: exact before wild, then the base of more labels (draft-vixie-dnsop-dns-rpz, section 5).
-- Patterns that tie so, of which at most one is about a name, come in order of their bases as bytes.
abbrev pub pattern_order : PlainPattern → PlainPattern → Ordering
pattern_order a b =
    ordering_then (bool_cmp a.wild b.wild)
    (ordering_then (nat_cmp (length b.base) (length a.base))
    (slice_cmp nat_cmp (name_octets a.base) (name_octets b.base)))

-- The entry that comes first of those whose pattern is about the name, as a scan over all entries finds it.
abbrev pub best : {V : Type 0} → Name → List (PlainPattern × V) → Option (PlainPattern × V)
best name entries = find (λ e. matches e.0 name) entries
