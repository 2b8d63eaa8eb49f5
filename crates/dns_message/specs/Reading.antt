-- Which message the bytes are, or which is their first fault (RFC 1035, section 4.1).
use Rattle.std.specs.Prelude.{◌≡◌, ℕ, zero, suc, ◌+◌, ◌/◌, ◌%◌, ◌==◌, Bool, ◌&&◌, not, nat_lt, if◌then◌else◌, List, [], ◌∷◌, length, slice_index, Option, Some, None, Result, Ok, Err}
use Rattle.std.specs.List.{filter}
use Rattle.dns_name.specs.Reading.{◌>>=◌, name_at}
use Rattle.dns_record.specs.Number.{number_at}
use Rattle.dns_record.specs.Reading.{record_at}
use Rattle.dns_record.specs.Record.{PlainRecord}
use Rattle.dns_record.specs.declared.rtype.TheConstants.{OPT}
use Rattle.dns_message.specs.declared.edns.Edns.{Edns}
use Rattle.dns_message.specs.declared.fault.MessageFault.{MessageFault}
use Rattle.dns_message.specs.declared.fault.MessageFault.TheVariants.{Short, Question as Questions, Trailing, TwoOpts}
use Rattle.dns_message.specs.declared.fault.MessageError.{MessageError}
use Rattle.dns_message.specs.declared.fault.MessageError.TheVariants as errors
use Rattle.dns_message.specs.declared.header.Header.{Header}
use Rattle.dns_message.specs.declared.message.Message.{Message}
use Rattle.dns_message.specs.declared.question.Question.{Question}
use Rattle.dns_message.specs.Becomes.{as_record, as_question}

-- whether the bit of this value is 1
abbrev pub is_set : ℕ → ℕ → Bool
is_set value octet = octet / value % 2 == 1

-- the header of a message of at least 12 octets, but for its counts and the bits Z
unfoldable pub header_in : List ℕ → Header
header_in bytes =
    let first = slice_index bytes 2 in
    let second = slice_index bytes 3 in
    record {
      id = number_at 2 bytes 0;
      qr = is_set 128 first;
      opcode = first / 8 % 16;
      aa = is_set 4 first;
      tc = is_set 2 first;
      rd = is_set 1 first;
      ra = is_set 128 second;
      rcode = second % 16;
    }

-- the place after so many octets, which the message must have
abbrev pub after_octets : List ℕ → ℕ → ℕ → Result ℕ MessageFault
after_octets bytes place count =
    if nat_lt (length bytes) (place + count) then Err Short else Ok (place + count)

-- the question at a place, and the place after it
unfoldable pub question_at : List ℕ → ℕ → Result (Question × ℕ) MessageFault
question_at bytes place = do
  name ← as_question (name_at bytes place)
  after ← after_octets bytes name.1 4
  Ok (
    record {
      name = name.0;
      qtype = number_at 2 bytes name.1;
      qclass = number_at 2 bytes (name.1 + 2);
    },
    after,
  )

abbrev pub some_question : Question × ℕ → Result (Option Question × ℕ) MessageFault
some_question read = Ok (Some read.0, read.1)

-- no question or one behind the header, and the place after it
unfoldable pub questions_at : ℕ → List ℕ → Result (Option Question × ℕ) MessageFault
questions_at count bytes =
    if count == 0 then Ok (None, 12)
    else (if count == 1 then question_at bytes 12 >>= some_question else Err Questions)

-- so many records from a place on, and the place after them
unfoldable pub records_at : ℕ → List ℕ → ℕ → Result (List PlainRecord × ℕ) MessageFault
records_at zero bytes place = Ok ([], place)
records_at (suc count) bytes place = do
  first ← as_record (record_at bytes place)
  others ← records_at count bytes first.1
  Ok (first.0 ∷ others.0, others.1)

-- an OPT record (RFC 6891, section 6.1.2): the type 41, owned by the root
abbrev pub is_opt : PlainRecord → Bool
is_opt r = r.rtype == OPT && length r.owner == 0

-- what an OPT record says (RFC 6891, section 6.1.3), but for its flags and its options
abbrev pub edns_of : PlainRecord → Edns
edns_of r =
    record { payload = r.class; version = r.ttl / 65536 % 256; extended = r.ttl / 16777216 % 256 }

-- what the OPT records of a message say: there is one at most (RFC 6891, section 6.1.1)
abbrev pub edns_in : List PlainRecord → Result (Option Edns) MessageFault
edns_in [] = Ok None
edns_in (opt ∷ []) = Ok (Some (edns_of opt))
edns_in (opt ∷ other ∷ opts) = Err TwoOpts

-- what follows the end of a message, which is no later than the end of its octets
abbrev pub unless_trailing : {A : Type 0} → List ℕ → ℕ → Result A MessageFault →
    Result A MessageFault
unless_trailing bytes place rest = if nat_lt place (length bytes) then Err Trailing else rest

-- The message after its header. The count of questions is looked at before anything behind the header, and the OPT
-- records only once all records are read to the end of the octets.
unfoldable pub sections_of : List ℕ → Result Message MessageFault
sections_of bytes = do
  question ← questions_at (number_at 2 bytes 4) bytes
  answer ← records_at (number_at 2 bytes 6) bytes question.1
  authority ← records_at (number_at 2 bytes 8) bytes answer.1
  additional ← records_at (number_at 2 bytes 10) bytes authority.1
  edns ← unless_trailing bytes additional.1 (edns_in (filter is_opt additional.0))
  Ok (record {
    header = header_in bytes;
    question = question.0;
    answer = answer.0;
    authority = authority.0;
    additional = filter (λ r. not (is_opt r)) additional.0;
    edns = edns;
  })

-- The message that the bytes are, or the first fault.
unfoldable pub message_of : List ℕ → Result Message MessageFault
message_of bytes = if nat_lt (length bytes) 12 then Err Short else sections_of bytes

-- What a function returned, seen by view, is what reading gives, unless memory ran out.
abbrev pub Fails : {Y : Type 0} → MessageError → Result Y MessageFault → Type 0
Fails errors.OutOfMemory read = Unit {0}
Fails (errors.Fault f) read = read ≡ Err f

abbrev pub Gives : {X Y : Type 0} → (X → Y) → Result X MessageError → Result Y MessageFault → Type 0
Gives view (Ok x) read = read ≡ Ok (view x)
Gives view (Err e) read = Fails e read
