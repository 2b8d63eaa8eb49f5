-- What the calls of a cache do to its entries, where it tells them.
use Rattle.std.specs.Prelude.{◌≡◌, ℕ, [], Option, Some, None, IfSome}
use Rattle.dns_message.specs.declared.question.Question.{Question}
use Rattle.upstream_link.specs.Vouched.{PlainLearned}
use Rattle.answer_cache.specs.Recent.{Recent, after_keep, after_look_up, live_entry, recent}

-- the cache after a look-up
abbrev pub looked_up : Question → Option Recent → Option Recent
looked_up question None = None
looked_up question (Some cache) =
    Some (recent (after_look_up question cache.entries) cache.limit)

-- the cache after a keep
abbrev pub kept : PlainLearned → Option Recent → Option Recent
kept entry None = None
kept entry (Some cache) =
    Some (recent (after_keep cache.limit entry cache.entries) cache.limit)

-- the cache without its entries
abbrev pub emptied : Option Recent → Option Recent
emptied None = None
emptied (Some cache) = Some (recent [] cache.limit)

-- A look-up finds this live entry or none, if the cache tells its entries.
abbrev pub IsFound : Question → ℕ → Option PlainLearned → Option Recent → Type 0
IsFound question now entry cache = IfSome cache (λ c. entry ≡ live_entry question now c.entries)
