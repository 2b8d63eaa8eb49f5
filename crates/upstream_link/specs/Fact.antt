-- What the bytes that came in answer to a question say.
use Rattle.std.specs.Prelude.{ℕ, ◌==◌, ◌&&◌, ◌||◌, Bool, true, false, not, if◌then◌else◌, List, filter, Option, Some, None, Result, Ok, Err}
use Rattle.std.specs.List.{find}
use Rattle.dns_name.specs.Alike.{same_name}
use Rattle.dns_record.specs.Record.{PlainRecord}
use Rattle.dns_record.specs.declared.rtype.TheConstants.{SOA}
use Rattle.dns_record.specs.declared.class.TheConstants.{IN}
use Rattle.dns_message.specs.declared.fault.MessageFault.{MessageFault}
use Rattle.dns_message.specs.declared.message.Message.{Message}
use Rattle.dns_message.specs.declared.question.Question.{Question}
use Rattle.dns_message.specs.Reading.{message_of}
use Rattle.upstream_link.specs.Kept.{PlainAnswer}
use Rattle.upstream_link.specs.declared.fact.Fact.{Fact}
use Rattle.upstream_link.specs.declared.fact.Fact.TheVariants.{Answer, Broken}
use Rattle.upstream_link.specs.declared.fact.AnswerFault.TheVariants.{Failed, Unusable, Rcode}

-- questions are alike; their names compare without case (RFC 1035, section 2.3.3)
abbrev pub same_question : Question → Question → Bool
same_question a b = same_name a.name b.name && (a.qtype == b.qtype && a.qclass == b.qclass)

abbrev pub asks : Question → Option Question → Bool
asks question None = false
asks question (Some other) = same_question other question

-- a whole response to the question in a message of this ID (RFC 1035, section 4.1.1)
abbrev pub answers_to : ℕ → Question → Message → Bool
answers_to id question m =
    m.header.id == id
    && (m.header.qr && (m.header.opcode == 0 && (not m.header.tc && asks question m.question)))

-- a SOA record of class IN
abbrev pub is_soa : PlainRecord → Bool
is_soa r = r.rtype == SOA && r.class == IN

-- of the answers those of class IN, and of the authority section the first SOA record of class IN (RFC 2308, section 2); no
-- time has passed
abbrev pub answer_in : Message → PlainAnswer
answer_in m =
    record {
      rcode = m.header.rcode;
      answers = filter (λ r. r.class == IN) m.answer;
      soa = find is_soa m.authority;
      age = 0;
    }

-- the rcode says that there is an answer, or that the name doesn't exist
abbrev pub is_answer_rcode : ℕ → Bool
is_answer_rcode rcode = rcode == 0 || rcode == 3

-- no bytes came at all
abbrev pub is_failed : Fact → Bool
is_failed (Broken Failed) = true
is_failed (Broken (Unusable octets)) = false
is_failed (Broken (Rcode rcode)) = false
is_failed (Answer answer) = false

abbrev pub fact_in : Message → Fact
fact_in m =
    if is_answer_rcode m.header.rcode then Answer (answer_in m) else Broken (Rcode m.header.rcode)

abbrev pub fact_by : List ℕ → ℕ → Question → Result Message MessageFault → Fact
fact_by octets id question (Ok m) =
    if answers_to id question m then fact_in m else Broken (Unusable octets)
fact_by octets id question (Err fault) = Broken (Unusable octets)

-- What the bytes say that came for a question in a message of this ID: an answer, or that it can't be used.
unfoldable pub fact_from : List ℕ → ℕ → Question → Fact
fact_from octets id question = fact_by octets id question (message_of octets)
