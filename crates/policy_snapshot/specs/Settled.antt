-- When no further fact changes what is decided.
use Rattle.std.specs.Prelude.{◌≡◌, ℕ, Bool, true, false, List}
use Rattle.dns_name.specs.Labels.{Name}
use Rattle.dns_message.specs.declared.request.Query.{Query}
use Rattle.rpz_precedence.specs.Best.{best}
use Rattle.upstream_link.specs.Facts.{PlainFacts, Extends}
use Rattle.policy_snapshot.specs.Hits.{hits}
use Rattle.policy_snapshot.specs.Next.{Next, ask, decided_by, no_hit, chain_too_long}
use Rattle.policy_snapshot.specs.Rules.{PlainRule}

-- no fact that may come changes which hit is the best at a position, where this name stands
abbrev pub IsSettled : List PlainRule → Query → PlainFacts → ℕ → Name → Type 0
IsSettled all query facts position name =
    (more : PlainFacts) → Extends facts more →
    best (hits all query more position name) ≡ best (hits all query facts position name)

-- something is decided: no question comes next
abbrev pub is_settled : Next → Bool
is_settled (ask question) = false
is_settled (decided_by before name hit) = true
is_settled no_hit = true
is_settled chain_too_long = true
