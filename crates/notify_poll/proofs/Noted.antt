-- What a message was that brings a zone forward.
use Rattle.std.proofs.Common.{◌≡◌, ℕ, zero, suc, Bool, true, false, not, ◌&&◌, ◌||◌, cond, Option, Some, None, List, [], ◌∷◌, get_or, refl, sym, ap, ◌∙◌}
use Rattle.std.specs.Prelude.{position, slice_get, ◌==◌}
use Rattle.std.proofs.lemmas.Bool.{eq-eqb, eqb-true, or_left, or_right}
use Rattle.std.proofs.lemmas.List.Quantifiers.{position-Some}
use Rattle.std.proofs.lemmas.Option.{cond_some, slice_get-get_or}
use Rattle.dns_name.specs.Labels.{Name}
use Rattle.dns_name.specs.Alike.{same_name}
use Rattle.dns_message.specs.declared.edns.Edns.{Edns}
use Rattle.dns_message.specs.declared.header.Header.{Header}
use Rattle.dns_message.specs.declared.message.Message.{Message}
use Rattle.dns_message.specs.declared.question.Question.{Question}
use Rattle.dns_message.specs.declared.triage.TheConstants.{NO_ERROR, NOT_IMPLEMENTED}
use Rattle.dns_message.specs.declared.edns.TheConstants.{BAD_VERSION}
use Rattle.dns_message.specs.Reading.{header_in, message_of}
use Rattle.dns_message.specs.Request.{QueryParts, has_later_version, header_alone, query_parts_in, reply_edns, speaks_in, turned_away, with_question}
use Rattle.dns_record.specs.declared.rtype.TheConstants.{SOA}
use Rattle.dns_record.specs.declared.class.TheConstants.{IN}
use Rattle.ip_prefix.specs.declared.Addr.{Addr}
use Rattle.notify_poll.specs.declared.notifying.TheConstants.{NOTIFY}
use Rattle.notify_poll.specs.declared.timer.Timer.{Timer}
use Rattle.notify_poll.specs.History.{IsFirstNotifyOf, IsNotifyOf}
use Rattle.notify_poll.specs.Notifying.{Answer, answer_to, is_from_primary, is_of_primary, is_primary, notify_answer, place_from, zone_answer, zone_noted}

-- ---- replies that bring no zone forward

abbrev pub no_zone : Option Message → Answer
no_zone reply = (reply, None)

speaks : (b : Bool) (inner : Answer) (place : ℕ) → (cond (not b) (no_zone None) inner).1 ≡ Some place → (b ≡ true) × (inner.1 ≡ Some place)
speaks true inner place e = (refl, e)
speaks false inner place e = absurd cc

holds : (b : Bool) (inner : Answer) (reply : Option Message) (place : ℕ) → (cond b inner (no_zone reply)).1 ≡ Some place → (b ≡ true) × (inner.1 ≡ Some place)
holds true inner reply place e = (refl, e)
holds false inner reply place e = absurd cc

fails : (b : Bool) (reply : Option Message) (inner : Answer) (place : ℕ) → (cond b (no_zone reply) inner).1 ≡ Some place → inner.1 ≡ Some place
fails true reply inner place e = absurd cc
fails false reply inner place e = e

its_zone : (h : Header) (question : Question) (edns : Option Edns) (noted : Option ℕ) (place : ℕ) → (zone_answer h question edns noted).1 ≡ Some place → noted ≡ Some place
its_zone h question edns None place e = absurd cc
its_zone h question edns (Some at) place e = e

-- what the message asks is about the zone
asks_for : (h : Header) (parts : Option QueryParts) (client : Addr) (origins : List Name) (timers : List Timer) (place : ℕ) → (notify_answer h parts origins timers client).1 ≡ Some place
    → (asked : QueryParts) × (parts ≡ Some asked) × (zone_noted origins timers client asked.0 ≡ Some place)
asks_for h None client origins timers place e = absurd cc
asks_for h (Some asked) client origins timers place e =
    let noted = zone_noted origins timers client asked.0 in
    let later : Option Message = Some (with_question NO_ERROR h asked.0 (reply_edns BAD_VERSION asked.1)) in
    (asked, refl, its_zone h asked.0 asked.1 noted place (fails (has_later_version asked.1) later (zone_answer h asked.0 asked.1 noted) place e))

-- ---- the zone of the question

for_soa : (soa in_class : Bool) (noted : Option ℕ) (place : ℕ) → cond (soa && in_class) noted None ≡ Some place → (soa ≡ true) × (in_class ≡ true) × (noted ≡ Some place)
for_soa true true noted place e = (refl, refl, e)
for_soa true false noted place e = absurd cc
for_soa false in_class noted place e = absurd cc

from_primary : (timers : List Timer) (client : Addr) (found : Option ℕ) (place : ℕ) → place_from timers client found ≡ Some place → (found ≡ Some place) × (is_from_primary (slice_get timers place) client ≡ true)
from_primary timers client None place e = absurd cc
from_primary timers client (Some at) place e =
    let both = cond_some (is_from_primary (slice_get timers at) client) at place e in
    (ap Some both.1, ap (λ p. is_from_primary (slice_get timers p) client) (sym both.1) ∙ both.0)

pub is_notify : (may_ask : Bool) (bytes : List ℕ) (client : Addr) (origins : List Name) (timers : List Timer) (place : ℕ) → (answer_to may_ask bytes client origins timers).1 ≡ Some place → IsNotifyOf bytes client origins timers place
unfolding answer_to
is_notify may_ask bytes client origins timers place e =
    let h = header_in bytes in
    let parts = query_parts_in (message_of bytes) in
    let answer = notify_answer h parts origins timers client in
    let other : Option Message = Some (header_alone NOT_IMPLEMENTED h) in
    let asked = cond (h.opcode == NOTIFY) answer (no_zone other) in
    let outside = not (may_ask || is_of_primary timers client) in
    let request = speaks (speaks_in bytes) (cond outside (no_zone (Some (turned_away bytes))) asked) place e in
    let inside = fails outside (Some (turned_away bytes)) asked place request.1 in
    let notify = holds (h.opcode == NOTIFY) answer other place inside in
    let asks = asks_for h parts client origins timers place notify.1 in
    let question = asks.0.0 in
    let test = same_name question.name in
    let soa = for_soa (question.qtype == SOA) (question.qclass == IN) (place_from timers client (position test origins)) place asks.2 in
    let primary = from_primary timers client (position test origins) place soa.2 in
    let found = position-Some test origins place [] primary.0 in
    record {
      is_request = request.0;
      is_notify = eqb-true h.opcode NOTIFY notify.0;
      asked = asks.0;
      asks = asks.1;
      is_for_soa = eqb-true question.qtype SOA soa.0;
      is_of_class = eqb-true question.qclass IN soa.1;
      origin = get_or origins place [];
      is_origin = slice_get-get_or origins place [] found.0;
      is_named = found.1;
      is_from = primary.1;
    }

-- ---- a NOTIFY of a primary is taken

-- the primary of a zone is one of some zone
of_primary : (timers : List Timer) (place : ℕ) (client : Addr) → is_from_primary (slice_get timers place) client ≡ true → is_of_primary timers client ≡ true
of_primary [] place client e = absurd cc
of_primary (timer ∷ timers) zero client e = or_left (is_primary timer.primary client) (is_of_primary timers client) e
of_primary (timer ∷ timers) (suc place) client e = or_right (is_primary timer.primary client) (is_of_primary timers client) (of_primary timers place client e)

not_outside : (may_ask primary : Bool) → primary ≡ true → not (may_ask || primary) ≡ false
not_outside true primary e = refl
not_outside false primary e = rw e refl

-- what is asked for the first zone of a name by its primary
noted_first : (origins : List Name) (timers : List Timer) (client : Addr) (question : Question) (place : ℕ) → question.qtype ≡ SOA → question.qclass ≡ IN → position (same_name question.name) origins ≡ Some place → is_from_primary (slice_get timers place) client ≡ true → zone_noted origins timers client question ≡ Some place
noted_first origins timers client question place soa class first primary =
    let is_soa : (question.qtype == SOA) ≡ true = eq-eqb question.qtype SOA soa in
    let is_in : (question.qclass == IN) ≡ true = eq-eqb question.qclass IN class in
    rw (is_soa, is_in, first, primary) refl

pub is_taken : (may_ask : Bool) (bytes : List ℕ) (client : Addr) (origins : List Name) (timers : List Timer) (place : ℕ) → IsFirstNotifyOf bytes client origins timers place → (answer_to may_ask bytes client origins timers).1 ≡ Some place
unfolding answer_to
is_taken may_ask bytes client origins timers place h =
    let question = h.of.asked.0 in
    let inside = not_outside may_ask (is_of_primary timers client) (of_primary timers place client h.of.is_from) in
    let notify : ((header_in bytes).opcode == NOTIFY) ≡ true = eq-eqb (header_in bytes).opcode NOTIFY h.of.is_notify in
    let noted = noted_first origins timers client question place h.of.is_for_soa h.of.is_of_class h.is_first h.of.is_from in
    rw (h.of.is_request, inside, notify, h.of.asks, h.is_served, noted) refl
