-- How code finds what must be asked about the addresses of servers.
use Rattle.std.specs.Prelude.{Bool, true, not, List, fold, if◌then◌else◌, Option, Some, None}
use Rattle.std.specs.List.{find}
use Rattle.std.specs.Ordering.{is_lt}
use Rattle.dns_name.specs.Labels.{Name}
use Rattle.dns_name.specs.Order.{canonical_order}
use Rattle.upstream_link.specs.Facts.{PlainFacts}
use Rattle.policy_snapshot.specs.Next.{has_known_addresses}

-- the first server of a list whose addresses aren't all known
abbrev pub first_unknown_server : PlainFacts → List Name → Option Name
first_unknown_server facts names = find (λ server. not (has_known_addresses facts server)) names

-- the name comes before the first one so far
abbrev pub comes_first : Name → Option Name → Bool
comes_first name None = true
comes_first name (Some first) = is_lt (canonical_order name first)

abbrev pub earlier : Option Name → Option Name → Option Name
earlier first None = first
earlier first (Some name) = if comes_first name first then Some name else first

-- the first of the first of each list
abbrev pub first_server : PlainFacts → List (List Name) → Option Name
first_server facts lists =
    fold (λ first list. earlier first (first_unknown_server facts list)) None lists
