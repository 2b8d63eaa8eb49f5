-- The upstream in memory, which answers each question, whatever its type, with one A record (RFC 1035, section 3.4.1).
use Rattle.std.specs.Prelude.{ℕ, ◌+◌, ◌*◌, ◌/◌, ◌%◌, ◌^◌, List, [], ◌∷◌, None, Some, fold, true, false}
use Rattle.dns_name.specs.Labels.{lowered, name_octets, Name}
use Rattle.dns_record.specs.Record.{PlainRecord}
use Rattle.dns_message.specs.declared.header.Header.{Header}
use Rattle.dns_message.specs.declared.message.Message.{Message}
use Rattle.dns_message.specs.declared.question.Question.{Question}
use Rattle.upstream_link.specs.declared.fact.Fact.{Fact}
use Rattle.upstream_link.specs.declared.fact.Fact.TheVariants.{Answer}
use Rattle.upstream_link.specs.Kept.{plain_answer}

-- a byte more of a name
abbrev pub next_sum : ℕ → ℕ → ℕ
next_sum sum byte = (31 * sum + byte) % 2 ^ 16

-- what the bytes of a name in lower case come to
abbrev pub name_sum : Name → ℕ
name_sum name = fold next_sum 0 (name_octets (lowered name))

-- 10.0.Y.Z, where 256 * Y + Z is the sum
abbrev pub address_octets : ℕ → List ℕ
address_octets sum = 10 ∷ 0 ∷ sum / 256 ∷ sum % 256 ∷ []

-- the A record of a name: class IN, TTL 60
abbrev pub address_record : Name → PlainRecord
address_record name =
    record { owner = name; rtype = 1; class = 1; ttl = 60; rdata = address_octets (name_sum name) }

-- what the upstream answers to a question
abbrev pub fact_for : Question → Fact
fact_for question = Answer (plain_answer 0 (address_record question.name ∷ []) None 0)

-- the header of a response that desires and has recursion
abbrev pub response_header : Header
response_header =
    record {
      id = 0;
      qr = true;
      opcode = 0;
      aa = false;
      tc = false;
      rd = true;
      ra = true;
      rcode = 0;
    }

-- the message in which the answer comes
abbrev pub response_to : Question → Message
response_to question = record {
  header = response_header;
  question = Some question;
  answer = address_record question.name ∷ [];
  authority = [];
  additional = [];
  edns = None;
}
