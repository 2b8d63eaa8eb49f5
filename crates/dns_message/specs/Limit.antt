-- How long a message may be, and what stands in place of a longer one (RFC 1035, sections 4.1.1 and 4.2; RFC 6891, section 6.2).
use Rattle.std.specs.Prelude.{ℕ, nat_lt, max, min, if◌then◌else◌, true, List, [], length, Option, Some, None}
use Rattle.ip_prefix.specs.declared.Transport.{Transport}
use Rattle.ip_prefix.specs.declared.Transport.TheVariants.{Udp, Tcp}
use Rattle.dns_message.specs.declared.edns.Edns.{Edns}
use Rattle.dns_message.specs.declared.edns.TheConstants.{UDP_PAYLOAD}
use Rattle.dns_message.specs.declared.header.Header.{Header}
use Rattle.dns_message.specs.declared.limit.TheConstants.{LEAST_LIMIT, GREATEST_LIMIT}
use Rattle.dns_message.specs.declared.message.Message.{Message}
use Rattle.dns_message.specs.declared.question.Question.{Question}
use Rattle.dns_message.specs.declared.request.Query.{Query}
use Rattle.dns_message.specs.Spelling.{parts_octets}

-- over UDP: the size that the OPT record of the request tells, within bounds; the least without one
abbrev pub udp_limit : Option Edns → ℕ
udp_limit None = LEAST_LIMIT
udp_limit (Some edns) = max LEAST_LIMIT (min edns.payload UDP_PAYLOAD)

abbrev pub limit_over : Transport → Option Edns → ℕ
limit_over Udp edns = udp_limit edns
limit_over Tcp edns = GREATEST_LIMIT

-- The most octets of the reply to a query (RFC 1035, section 4.2.1; RFC 6891, section 6.2.3).
abbrev pub reply_limit : Query → ℕ
reply_limit query = limit_over query.transport query.edns

-- the header of a truncated message: TC is 1 (RFC 1035, section 4.1.1)
abbrev pub truncated_header : Header → Header
truncated_header h =
    record {
      id = h.id;
      qr = h.qr;
      opcode = h.opcode;
      aa = h.aa;
      tc = true;
      rd = h.rd;
      ra = h.ra;
      rcode = h.rcode;
    }

-- the truncated form of a message: its header with TC 1, the question, and the OPT record
abbrev pub truncated_form : Message → Message
truncated_form m =
    record {
      header = truncated_header m.header;
      question = m.question;
      answer = [];
      authority = [];
      additional = [];
      edns = m.edns;
    }

-- the octets of a truncated message of these parts
abbrev pub truncated_octets : Header → Option Question → Option Edns → List ℕ
truncated_octets h question edns = parts_octets 0 (truncated_header h) question [] [] [] edns

-- a message, or its truncated form exactly where it is longer than the limit
abbrev pub within_limit : ℕ → List ℕ → List ℕ → List ℕ
within_limit limit whole cut = if nat_lt limit (length whole) then cut else whole

-- the octets of a message of this header, question and OPT record, or of its truncated form, within a limit
abbrev pub octets_within : ℕ → List ℕ → Header → Option Question → Option Edns → List ℕ
octets_within limit octets h question edns =
    within_limit limit octets (truncated_octets h question edns)
