-- A cache: what was learned, the most recently used first (RFC 2308, section 5).
use Rattle.std.specs.Prelude.{◌≡◌, ◌↔◌, ℕ, ◌==◌, Contains, Bool, true, if◌then◌else◌, List, [], ◌∷◌, take, Option, Some, None}
use Rattle.std.specs.List.{IsDistinct, find}
use Rattle.std.specs.Option.{option_map_or}
use Rattle.std.specs.Str.{bytes_eq}
use Rattle.dns_message.specs.declared.question.Question.{Question}
use Rattle.upstream_link.specs.Vouched.{PlainLearned, life, live}
use Rattle.answer_cache.specs.Key.{key_of}

-- the entries, and how many there may be
pub record Recent : Type 0 where
  pub entries : List PlainLearned
  pub limit : ℕ

-- A cache by its entries, the most recently used first, and its limit.
abbrev pub recent : List PlainLearned → ℕ → Recent
recent entries limit = record { entries = entries; limit = limit }

-- the entry is about the question; names compare without case
abbrev pub is_about : Question → PlainLearned → Bool
is_about question entry = bytes_eq (key_of question) (key_of entry.question)

-- the entries without the one about the question
abbrev pub without : Question → List PlainLearned → List PlainLearned
without question [] = []
without question (entry ∷ entries) =
    if is_about question entry then entries else entry ∷ without question entries

-- The entries after a look-up: one about the question goes first, live or not.
abbrev pub after_look_up : Question → List PlainLearned → List PlainLearned
after_look_up question entries =
    option_map_or (λ entry. entry ∷ without question entries) (find (is_about question) entries)
    entries

abbrev pub if_live : ℕ → Option PlainLearned → Option PlainLearned
if_live now None = None
if_live now (Some entry) = if live now entry then Some entry else None

-- The entry about a question that a look-up finds, if it is live.
abbrev pub live_entry : Question → ℕ → List PlainLearned → Option PlainLearned
live_entry question now entries = if_live now (find (is_about question) entries)

-- the new entry goes first, in place of one about its question, and at most so many stay
abbrev pub put_first : ℕ → PlainLearned → List PlainLearned → List PlainLearned
put_first limit entry entries = take limit (entry ∷ without entry.question entries)

-- The entries after something was learned. What has a life of 0 isn't kept.
abbrev pub after_keep : ℕ → PlainLearned → List PlainLearned → List PlainLearned
after_keep limit entry entries = if life entry == 0 then entries else put_first limit entry entries

-- the entry is about the question, and live
pub record Serves (question : Question) (now : ℕ) (entry : PlainLearned) : Type 0 where
  pub about : key_of question ≡ key_of entry.question
  pub holds : live now entry ≡ true

-- the same entries, in whatever order
abbrev pub HaveSameEntries : List PlainLearned → List PlainLearned → Type 0
HaveSameEntries entries others =
    (entry : PlainLearned) → Contains entries entry ↔ Contains others entry

-- No two entries are about one question.
abbrev pub AreApart : List PlainLearned → Type 0
AreApart entries = IsDistinct (λ entry other. is_about entry.question other) entries
