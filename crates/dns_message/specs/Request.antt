-- What is done with the bytes that a client sent (RFC 1035, section 4.1.1; RFC 6891; RFC 6895, section 2.3).
use Rattle.std.specs.Prelude.{ℕ, ◌+◌, ◌==◌, nat_le, nat_lt, Bool, true, false, not, ◌&&◌, ◌||◌, if◌then◌else◌, List, [], length, Option, Some, None, Result, Ok, Err}
use Rattle.ip_prefix.specs.declared.Addr.{Addr}
use Rattle.ip_prefix.specs.declared.Transport.{Transport}
use Rattle.dns_record.specs.declared.rtype.TheConstants.{AXFR, IXFR}
use Rattle.dns_record.specs.declared.class.TheConstants.{IN}
use Rattle.dns_message.specs.declared.edns.Edns.{Edns}
use Rattle.dns_message.specs.declared.edns.TheConstants.{EDNS_VERSION, UDP_PAYLOAD, BAD_VERSION}
use Rattle.dns_message.specs.declared.fault.MessageFault.{MessageFault}
use Rattle.dns_message.specs.declared.header.Header.{Header}
use Rattle.dns_message.specs.declared.message.Message.{Message}
use Rattle.dns_message.specs.declared.question.Question.{Question}
use Rattle.dns_message.specs.declared.request.Incoming.{Incoming}
use Rattle.dns_message.specs.declared.triage.TheConstants.{NO_ERROR, FORMAT_ERROR, NOT_IMPLEMENTED, REFUSED}
use Rattle.dns_message.specs.declared.request.Incoming.TheVariants.{Silent, Refuse, Query as Asks}
use Rattle.dns_record.specs.Number.{number_at}
use Rattle.dns_message.specs.Reading.{header_in, message_of, question_at}
use Rattle.dns_message.specs.Spelling.{question_octets}

-- A message is answered at all: it has a header, and QR is 0.
abbrev pub speaks_in : List ℕ → Bool
speaks_in bytes = nat_le 12 (length bytes) && not (header_in bytes).qr

-- what the OPT record of a reply says, where the request had one (RFC 6891, section 6.1.1)
abbrev pub reply_edns : ℕ → Option Edns → Option Edns
reply_edns extended None = None
reply_edns extended (Some edns) =
    Some (record { payload = UDP_PAYLOAD; version = EDNS_VERSION; extended = extended })

-- the header of a request with this ID for records, which desires recursion or doesn't
abbrev pub request_header : ℕ → Bool → Header
request_header id rd =
    record {
      id = id;
      qr = false;
      opcode = 0;
      aa = false;
      tc = false;
      rd = rd;
      ra = false;
      rcode = 0;
    }

-- the header of a refusal
abbrev pub refusal_header : ℕ → Header → Header
refusal_header rcode h =
    record {
      id = h.id;
      qr = true;
      opcode = h.opcode;
      aa = false;
      tc = false;
      rd = h.rd;
      ra = true;
      rcode = rcode;
    }

-- a refusal with a question or none, and with an OPT record or none
abbrev pub refusal : ℕ → Header → Option Question → Option Edns → Message
refusal rcode h question edns =
    record {
      header = refusal_header rcode h;
      question = question;
      answer = [];
      authority = [];
      additional = [];
      edns = edns;
    }

-- A refusal with a header and nothing else.
abbrev pub header_alone : ℕ → Header → Message
header_alone rcode h = refusal rcode h None None

-- A refusal with the question, and with an OPT record if the request had one.
abbrev pub with_question : ℕ → Header → Question → Option Edns → Message
with_question rcode h question edns = refusal rcode h (Some question) edns

-- what a request asks, and what its OPT record says
abbrev pub QueryParts : Type 0
QueryParts = Question × Option Edns

abbrev pub query_parts : Option Question → Option Edns → Option QueryParts
query_parts None edns = None
query_parts (Some question) edns = Some (question, edns)

-- a well formed request has a question
abbrev pub query_parts_in : Result Message MessageFault → Option QueryParts
query_parts_in (Ok m) = query_parts m.question m.edns
query_parts_in (Err fault) = None

-- The request has an OPT record of a version of EDNS that isn't served (RFC 6891, section 6.1.3).
abbrev pub has_later_version : Option Edns → Bool
has_later_version None = false
has_later_version (Some edns) = nat_lt EDNS_VERSION edns.version

-- The question is one of class IN, for no transfer of a zone (the types 251 and 252), and recursion is desired.
abbrev pub is_served : Header → Question → Bool
is_served h question =
    question.qclass == IN && (not (question.qtype == IXFR || question.qtype == AXFR) && h.rd)

-- A well formed request. The response code 16 (BADVERS; RFC 6891, section 9) says that the version isn't served: its
-- lower 4 bits, in the header, are 0.
abbrev pub query_or_refusal : Header → Question → Option Edns → Addr → Transport → Incoming
query_or_refusal h question edns client transport =
    if has_later_version edns
    then Refuse (with_question NO_ERROR h question (reply_edns BAD_VERSION edns))
    else (if is_served h question
    then Asks (record {
      id = h.id;
      rd = h.rd;
      question = question;
      edns = edns;
      client = client;
      transport = transport;
    })
    else Refuse (with_question REFUSED h question (reply_edns 0 edns)))

-- a request of the opcode 0
abbrev pub request_outcome : Header → Option QueryParts → Addr → Transport → Incoming
request_outcome h None client transport = Refuse (header_alone FORMAT_ERROR h)
request_outcome h (Some asked) client transport =
    query_or_refusal h asked.0 asked.1 client transport

abbrev pub question_read : Result (Question × ℕ) MessageFault → Option Question
question_read (Ok read) = Some read.0
question_read (Err fault) = None

-- The question of a request, where its header announces one that can be read. Nothing behind it is looked at.
unfoldable pub first_question : List ℕ → Option Question
first_question bytes =
    if number_at 2 bytes 4 == 1 then question_read (question_at bytes 12) else None

-- the question, where a header and it alone have at most so many octets
abbrev pub question_within : ℕ → Option Question → Option Question
question_within most None = None
question_within most (Some question) =
    if nat_le (12 + length (question_octets (Some question))) most then Some question else None

-- The reply to a client that may not ask: REFUSED, whatever it sent, and no longer than what it sent.
unfoldable pub turned_away : List ℕ → Message
turned_away bytes =
    refusal REFUSED (header_in bytes) (question_within (length bytes) (first_question bytes)) None

-- What is done with the bytes of a client that may ask, or may not: no reply, a refusal, or a query.
unfoldable pub incoming_of : Bool → List ℕ → Addr → Transport → Incoming
incoming_of may_ask bytes client transport =
    if not (speaks_in bytes) then Silent
    else (if not may_ask then Refuse (turned_away bytes)
    else (if (header_in bytes).opcode == 0
    then request_outcome (header_in bytes) (query_parts_in (message_of bytes)) client transport
    else Refuse (header_alone NOT_IMPLEMENTED (header_in bytes))))
