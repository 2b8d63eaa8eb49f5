-- A message as it is written, names in full (RFC 1035, section 4.1).
use Rattle.std.specs.Prelude.{◌≡◌, ℕ, ◌+◌, ◌*◌, ◌%◌, ◌^◌, ◌<◌, Bool, true, false, List, [], ◌∷◌, ◌++◌, length, Option, Some, None, IfSome}
use Rattle.std.specs.List.{flat_map, AllByRecursion}
use Rattle.dns_name.specs.Labels.{IsName, name_octets}
use Rattle.dns_record.specs.Number.{number_octets}
use Rattle.dns_record.specs.Record.{PlainRecord, IsRecord, record_octets}
use Rattle.dns_record.specs.declared.rtype.TheConstants.{OPT}
use Rattle.dns_message.specs.declared.edns.Edns.{Edns}
use Rattle.dns_message.specs.declared.header.Header.{Header}
use Rattle.dns_message.specs.declared.message.Message.{Message}
use Rattle.dns_message.specs.declared.question.Question.{Question}
use Rattle.dns_message.specs.Reading.{is_opt}

-- a bit as a number
abbrev pub bit : Bool → ℕ
bit false = 0
bit true = 1

-- the third octet: QR, Opcode, AA, TC and RD
abbrev pub first_flags : Header → ℕ
first_flags h = 128 * bit h.qr + 8 * (h.opcode % 16) + 4 * bit h.aa + 2 * bit h.tc + bit h.rd

-- the fourth octet: RA, the three bits Z, and RCODE
abbrev pub second_flags : ℕ → Header → ℕ
second_flags z h = 128 * bit h.ra + 16 * z + h.rcode % 16

-- How many questions a message has: 0 or 1.
abbrev pub question_count : Option Question → ℕ
question_count None = 0
question_count (Some question) = 1

unfoldable pub question_octets : Option Question → List ℕ
question_octets None = []
question_octets (Some question) =
    name_octets question.name ++ number_octets 2 question.qtype ++ number_octets 2 question.qclass

-- the four counts
unfoldable pub count_octets : ℕ → ℕ → ℕ → ℕ → List ℕ
count_octets questions answers authorities additionals =
    number_octets 2 questions ++ number_octets 2 answers ++ number_octets 2 authorities
    ++ number_octets 2 additionals

-- the header: the ID, the flags and the counts
unfoldable pub header_octets : ℕ → Header → ℕ → ℕ → ℕ → ℕ → List ℕ
header_octets z h questions answers authorities additionals =
    number_octets 2 h.id ++ (first_flags h ∷ second_flags z h ∷ [])
    ++ count_octets questions answers authorities additionals

-- the header and the question of a message with so many records in each section, its bits Z 0
unfoldable pub start_octets : Header → Option Question → ℕ → ℕ → ℕ → List ℕ
start_octets h question answers authorities additionals =
    header_octets 0 h (question_count question) answers authorities additionals
    ++ question_octets question

-- records one after another
unfoldable pub records_octets : List PlainRecord → List ℕ
records_octets records = flat_map record_octets records

-- How many OPT records a message has: 0 or 1.
abbrev pub opt_count : Option Edns → ℕ
opt_count None = 0
opt_count (Some edns) = 1

-- An OPT record (RFC 6891, section 6.1.2): the root, the type 41, the size for the class, the higher bits of
-- the response code, the version and no flags for the TTL, and no options.
unfoldable pub opt_octets : Option Edns → List ℕ
opt_octets None = []
opt_octets (Some edns) =
    0 ∷ [] ++ number_octets 2 OPT ++ number_octets 2 edns.payload
    ++ (edns.extended ∷ edns.version ∷ 0 ∷ 0 ∷ []) ++ number_octets 2 0

-- a message of these parts, with these bits Z; the OPT record stands last
unfoldable pub parts_octets : ℕ → Header → Option Question → List PlainRecord → List PlainRecord →
    List PlainRecord → Option Edns → List ℕ
parts_octets z h question answer authority additional edns =
    header_octets z h (question_count question) (length answer) (length authority)
    (length additional + opt_count edns)
    ++ question_octets question ++ records_octets answer ++ records_octets authority
    ++ records_octets additional ++ opt_octets edns

-- A message as it is written, its names in full (RFC 1035, section 4.1), with this value of the bits Z.
abbrev pub message_octets : ℕ → Message → List ℕ
message_octets z m = parts_octets z m.header m.question m.answer m.authority m.additional m.edns

-- the one spelling: the bits Z are 0
abbrev pub spelling : Message → List ℕ
spelling m = message_octets 0 m

-- The fields of a question fit their octets.
pub record IsQuestion (question : Question) : Type 0 where
  pub is_name : IsName question.name
  pub type_fits : question.qtype < 2 ^ 16
  pub class_fits : question.qclass < 2 ^ 16

pub record IsEdns (edns : Edns) : Type 0 where
  pub payload_fits : edns.payload < 2 ^ 16
  pub version_fits : edns.version < 256
  pub extended_fits : edns.extended < 256

-- The fields of a message fit their octets, and its names and records are valid: it can be written and read back.
pub record IsMessage (m : Message) : Type 0 where
  pub id_fits : m.header.id < 2 ^ 16
  pub opcode_fits : m.header.opcode < 16
  pub rcode_fits : m.header.rcode < 16
  pub is_question : IfSome m.question IsQuestion
  pub are_answers : AllByRecursion IsRecord m.answer
  pub are_authorities : AllByRecursion IsRecord m.authority
  pub are_additionals : AllByRecursion IsRecord m.additional
  pub answers_fit : length m.answer < 2 ^ 16
  pub authorities_fit : length m.authority < 2 ^ 16
  pub additionals_fit : length m.additional + opt_count m.edns < 2 ^ 16
  pub plain_additionals : AllByRecursion (λ r. is_opt r ≡ false) m.additional
  pub are_edns : IfSome m.edns IsEdns
