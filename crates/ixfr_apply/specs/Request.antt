-- Requests for a zone.
use Rattle.std.specs.Prelude.{ℕ, false, List, [], ◌∷◌, Some, None}
use Rattle.dns_name.specs.Labels.{Name}
use Rattle.dns_message.specs.declared.message.Message.{Message}
use Rattle.dns_message.specs.Request.{request_header}
use Rattle.dns_record.specs.declared.soa.Soa.{Soa}
use Rattle.dns_record.specs.Record.{PlainRecord}
use Rattle.dns_record.specs.Soa.{soa_record}
use Rattle.dns_record.specs.declared.rtype.TheConstants.{AXFR, IXFR}
use Rattle.dns_record.specs.declared.class.TheConstants.{IN}

-- a request of this ID with a question of this type about the zone, and these records as authority
abbrev pub request_message : ℕ → Name → ℕ → List PlainRecord → Message
request_message id origin qtype authority = record {
  header = request_header id false;
  question = Some (record { name = origin; qtype = qtype; qclass = IN });
  answer = [];
  authority = authority;
  additional = [];
  edns = None;
}

-- The request for all of a zone: type AXFR (RFC 5936, section 2.1).
abbrev pub whole_request : ℕ → Name → Message
whole_request id origin = request_message id origin AXFR []

-- The request for what is newer: type IXFR, with our SOA record as authority (RFC 1995, section 3).
abbrev pub newer_request : ℕ → Name → Soa → Message
newer_request id origin soa = request_message id origin IXFR (soa_record origin soa ∷ [])
