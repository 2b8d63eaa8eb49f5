-- Messages by rules (RFC 1035, section 4.1): what a message is, apart from how it is read.
use Rattle.std.specs.Prelude.{◌≡◌, ℕ, ◌<◌, ◌≤◌, ◌^◌, not, List, [], ◌∷◌, ◌++◌, length, map, Option, Some, None, Ok}
use Rattle.std.specs.List.{filter}
use Rattle.dns_name.specs.Grammar.{NameAt}
use Rattle.dns_name.specs.Standing.{Stands}
use Rattle.dns_record.specs.Grammar.{RecordAt}
use Rattle.dns_record.specs.Number.{number_at, number_octets}
use Rattle.dns_record.specs.Record.{PlainRecord}
use Rattle.dns_message.specs.declared.edns.Edns.{Edns}
use Rattle.dns_message.specs.declared.message.Message.{Message}
use Rattle.dns_message.specs.declared.question.Question.{Question}
use Rattle.dns_message.specs.Reading.{header_in, is_opt, edns_of}

-- the records stand one after another between two places
abbrev pub RecordsAt : List PlainRecord → List ℕ → ℕ → ℕ → Type 0
RecordsAt [] bytes place after = after ≡ place
RecordsAt (r ∷ rs) bytes place after =
    (middle : ℕ) × RecordAt bytes place r middle × RecordsAt rs bytes middle after

-- the question stands behind the header, and that is the place after it (RFC 1035, section 4.1.2)
pub record OneQuestionAt (bytes : List ℕ) (q : Question) (after : ℕ) : Type 0 where
  pub place : ℕ
  pub name : NameAt bytes 12 (Ok (q.name, place))
  pub numbers : Stands (number_octets 2 q.qtype ++ number_octets 2 q.qclass) bytes place after
  pub inside : after ≤ length bytes
  pub type_fits : q.qtype < 2 ^ 16
  pub class_fits : q.qclass < 2 ^ 16

-- no question or one, by their count
abbrev pub QuestionAt : ℕ → List ℕ → Option Question → ℕ → Type 0
QuestionAt count bytes None after = (count ≡ 0) × (after ≡ 12)
QuestionAt count bytes (Some q) after = (count ≡ 1) × OneQuestionAt bytes q after

abbrev pub edns_list : Option Edns → List Edns
edns_list None = []
edns_list (Some edns) = edns ∷ []

-- The additional section: so many records stand one after another between two places, and at most one of them
-- is an OPT record, which tells the extension (RFC 6891, section 6.1.1).
pub record AdditionalAt (count : ℕ) (bytes : List ℕ) (place : ℕ) (additional : List PlainRecord)
    (edns : Option Edns) (after : ℕ) : Type 0 where
  pub all : List PlainRecord
  pub stand : RecordsAt all bytes place after
  pub counted : length all ≡ count
  pub others : additional ≡ filter (λ r. not (is_opt r)) all
  pub opt : map edns_of (filter is_opt all) ≡ edns_list edns

-- The bytes are this message: a header, and the question and the records by its counts, to the end of the
-- bytes. Names may be compressed in any way (RFC 1035, section 4.1.4).
pub record MessageAt (bytes : List ℕ) (m : Message) : Type 0 where
  pub long : 12 ≤ length bytes
  pub header : m.header ≡ header_in bytes
  pub question_end : ℕ
  pub question : QuestionAt (number_at 2 bytes 4) bytes m.question question_end
  pub answer_end : ℕ
  pub answer_count : length m.answer ≡ number_at 2 bytes 6
  pub answer : RecordsAt m.answer bytes question_end answer_end
  pub authority_end : ℕ
  pub authority_count : length m.authority ≡ number_at 2 bytes 8
  pub authority : RecordsAt m.authority bytes answer_end authority_end
  pub additional : AdditionalAt (number_at 2 bytes 10) bytes authority_end m.additional m.edns
      (length bytes)
