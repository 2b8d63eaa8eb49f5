-- A message that is written record by record, up to a limit.
use Rattle.std.specs.Prelude.{◌≡◌, ℕ, ◌+◌, ◌<◌, ◌≤◌, nat_lt, Bool, true, if◌then◌else◌, List, [], ◌∷◌, ◌++◌, length, Option}
use Rattle.packed_names.specs.Places.{Place}
use Rattle.dns_record.specs.Record.{PlainRecord}
use Rattle.dns_message.specs.declared.edns.Edns.{Edns}
use Rattle.dns_message.specs.declared.header.Header.{Header}
use Rattle.dns_message.specs.declared.message.Message.{Message}
use Rattle.dns_message.specs.declared.question.Question.{Question}
use Rattle.dns_message.specs.Compressed.{Draft, draft_start, with_record}
use Rattle.dns_message.specs.declared.limit.TheConstants.{LEAST_LIMIT, GREATEST_LIMIT}
use Rattle.dns_message.specs.Limit.{octets_within, truncated_octets}
use Rattle.dns_message.specs.Spelling.{opt_count, opt_octets}

-- what is written so far, or that it is longer than the limit, whatever follows
pub data Progress : Type 0 where
  within : Draft → Progress
  beyond : Progress

abbrev pub kept_within : ℕ → Draft → Progress
kept_within limit d = if nat_lt limit (length d.octets) then beyond else within d

-- with a record more
abbrev pub progress_with : ℕ → Progress → PlainRecord → Progress
progress_with limit (within d) r = kept_within limit (with_record d r)
progress_with limit beyond r = beyond

-- with these records more
unfoldable pub progress_after : ℕ → Progress → List PlainRecord → Progress
progress_after limit progress [] = progress
progress_after limit progress (r ∷ rs) = progress_after limit (progress_with limit progress r) rs

-- what contracts see of a writer: its limit, and how far it has come
pub record Writing : Type 0 where
  pub limit : ℕ
  pub progress : Progress

-- the header and the question of a message are written, where so many records are to follow in each section
abbrev pub writing_start : ℕ → Header → Option Question → ℕ → ℕ → ℕ → Writing
writing_start limit h question answers authorities additionals =
    record {
      limit = limit;
      progress = within (draft_start 0 h question answers authorities additionals);
    }

-- these records are written behind the others
abbrev pub writing_after : Writing → List PlainRecord → Writing
writing_after w rs =
    record { limit = w.limit; progress = progress_after w.limit w.progress rs }

-- all of a message is written, but for its OPT record
abbrev pub writing_of : ℕ → Message → Writing
writing_of limit m =
    writing_after
    (writing_start limit m.header m.question (length m.answer) (length m.authority)
    (length m.additional + opt_count m.edns)) (m.answer ++ m.authority ++ m.additional)

-- the octets of the finished message, or of its truncated form
abbrev pub finished : ℕ → Header → Option Question → Option Edns → Progress → List ℕ
finished limit h question edns (within d) =
    octets_within limit (d.octets ++ opt_octets edns) h question edns
finished limit h question edns beyond = truncated_octets h question edns

abbrev pub draft : List ℕ → List Place → Draft
draft octets places = record { octets = octets; places = places }

abbrev pub progress_of : List ℕ → List Place → Bool → Progress
progress_of octets places is_beyond = if is_beyond then beyond else within (draft octets places)

-- the limit is one of a message, and octets that count as beyond it are longer
pub record IsWriter (limit : ℕ) (octets : List ℕ) (is_beyond : Bool) : Type 0 where
  pub low : LEAST_LIMIT ≤ limit
  pub high : limit ≤ GREATEST_LIMIT
  pub longer : is_beyond ≡ true → limit < length octets
