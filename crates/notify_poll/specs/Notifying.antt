-- What a NOTIFY is answered, and which zone it brings forward (RFC 1996, sections 3.6 to 3.12; the response codes are those of
-- RFC 6895, section 2.3).
use Rattle.std.specs.Prelude.{ℕ, ◌==◌, Bool, false, not, ◌&&◌, ◌||◌, List, Option, Some, None, if◌then◌else◌, position, slice_get, slice_set}
use Rattle.std.specs.List.{list_any}
use Rattle.ip_prefix.specs.declared.Addr.{Addr}
use Rattle.ip_prefix.specs.declared.Addr.TheVariants.{V4, V6}
use Rattle.dns_name.specs.Labels.{Name}
use Rattle.dns_name.specs.Alike.{same_name}
use Rattle.dns_record.specs.declared.rtype.TheConstants.{SOA}
use Rattle.dns_record.specs.declared.class.TheConstants.{IN}
use Rattle.dns_message.specs.declared.edns.Edns.{Edns}
use Rattle.dns_message.specs.declared.edns.TheConstants.{BAD_VERSION}
use Rattle.dns_message.specs.declared.header.Header.{Header}
use Rattle.dns_message.specs.declared.limit.TheConstants.{LEAST_LIMIT}
use Rattle.dns_message.specs.declared.message.Message.{Message}
use Rattle.dns_message.specs.declared.question.Question.{Question}
use Rattle.dns_message.specs.declared.triage.TheConstants.{NO_ERROR, FORMAT_ERROR, NOT_IMPLEMENTED, REFUSED}
use Rattle.dns_message.specs.Compressed.{compressed_within}
use Rattle.dns_message.specs.Reading.{header_in, message_of}
use Rattle.dns_message.specs.Request.{QueryParts, has_later_version, header_alone, query_parts_in, reply_edns, speaks_in, turned_away, with_question}
use Rattle.notify_poll.specs.declared.notifying.Notified.{Notified}
use Rattle.notify_poll.specs.declared.notifying.Notified.TheVariants.{Reply, Silent}
use Rattle.notify_poll.specs.declared.notifying.TheConstants.{NOTIFY}
use Rattle.notify_poll.specs.declared.timer.Timer.{Timer}
use Rattle.notify_poll.specs.Timers.{noted}

-- the client is the primary
abbrev pub is_primary : Option Addr → Addr → Bool
is_primary None client = false
is_primary (Some (V4 a)) (V4 b) = a == b
is_primary (Some (V4 a)) (V6 b) = false
is_primary (Some (V6 a)) (V4 b) = false
is_primary (Some (V6 a)) (V6 b) = a == b

abbrev pub is_from_primary : Option Timer → Addr → Bool
is_from_primary None client = false
is_from_primary (Some timer) client = is_primary timer.primary client

abbrev pub place_from : List Timer → Addr → Option ℕ → Option ℕ
place_from timers client None = None
place_from timers client (Some place) =
    if is_from_primary (slice_get timers place) client then Some place else None

-- The place of the zone that the question of a NOTIFY is about: it asks for the SOA record of the zone's origin, and comes from the
-- zone's primary (RFC 1996, sections 3.7 and 3.10). The first of the list has the place 0.
abbrev pub zone_noted : List Name → List Timer → Addr → Question → Option ℕ
zone_noted origins timers client question =
    if question.qtype == SOA && question.qclass == IN
    then place_from timers client (position (same_name question.name) origins) else None

-- a reply, and the place of the zone that is brought forward
abbrev pub Answer : Type 0
Answer = Option Message × Option ℕ

-- a well formed NOTIFY, whose question is about the zone of this place, or of none
abbrev pub zone_answer : Header → Question → Option Edns → Option ℕ → Answer
zone_answer h question edns None =
    (Some (with_question REFUSED h question (reply_edns 0 edns)), None)
zone_answer h question edns (Some place) =
    (Some (with_question NO_ERROR h question (reply_edns 0 edns)), Some place)

-- The response code 16 (BADVERS; RFC 6891, section 9) says that the version isn't served: its lower 4 bits, in the header, are 0.
abbrev pub version_answer : Header → Question → Option Edns → Option ℕ → Answer
version_answer h question edns place =
    if has_later_version edns
    then (Some (with_question NO_ERROR h question (reply_edns BAD_VERSION edns)), None)
    else zone_answer h question edns place

abbrev pub notify_answer : Header → Option QueryParts → List Name → List Timer → Addr → Answer
notify_answer h None origins timers client = (Some (header_alone FORMAT_ERROR h), None)
notify_answer h (Some asked) origins timers client =
    version_answer h asked.0 asked.1 (zone_noted origins timers client asked.0)

-- the client is the primary of some zone
abbrev pub is_of_primary : List Timer → Addr → Bool
is_of_primary timers client = list_any (λ timer. is_primary timer.primary client) timers

-- The reply to the bytes of a client, and the place of the zone that they bring forward. The client may ask or may not; the
-- primary of a zone is heard either way.
unfoldable pub answer_to : Bool → List ℕ → Addr → List Name → List Timer → Answer
answer_to may_ask bytes client origins timers =
    if not (speaks_in bytes) then (None, None)
    else (if not (may_ask || is_of_primary timers client) then (Some (turned_away bytes), None)
    else (if (header_in bytes).opcode == NOTIFY
    then notify_answer (header_in bytes) (query_parts_in (message_of bytes)) origins timers client
    else (Some (header_alone NOT_IMPLEMENTED (header_in bytes)), None)))

-- The reply to a NOTIFY within the least limit, or none.
abbrev pub as_notified : Option Message → Notified
as_notified None = Silent
as_notified (Some reply) = Reply (compressed_within LEAST_LIMIT reply)

-- the timer at this place, changed
abbrev pub with_timer : (Timer → Timer) → List Timer → ℕ → Option Timer → List Timer
with_timer change timers place None = timers
with_timer change timers place (Some timer) = slice_set timers place (change timer)

-- The timer at this place is changed, if there is one; the others stay.
abbrev pub changed_at : (Timer → Timer) → List Timer → ℕ → List Timer
changed_at change timers place = with_timer change timers place (slice_get timers place)

-- the zone of this place, if there is one, is due from this second on
abbrev pub brought_forward : ℕ → List Timer → Option ℕ → List Timer
brought_forward second timers None = timers
brought_forward second timers (Some place) = changed_at (noted second) timers place
