-- What a poll of a zone asks for (RFC 1995; RFC 5936), and the marks of zones of which all is asked for next.
use Rattle.std.specs.Prelude.{ℕ, Bool, ◌||◌, if◌then◌else◌, Option, Some, None}
use Rattle.dns_name.specs.Labels.{Name}
use Rattle.dns_message.specs.declared.message.Message.{Message}
use Rattle.zone_rows.specs.declared.zone.Content.{Content}
use Rattle.zone_rows.specs.declared.zone.PlainZone.{PlainZone}
use Rattle.ixfr_apply.specs.Marks.{mark_at, with_mark}
use Rattle.ixfr_apply.specs.Offer.{asks_newer, wanted_of}
use Rattle.ixfr_apply.specs.Request.{newer_request, whole_request}
use Rattle.policy_publish.specs.Lists.{Published}

-- the message that asks for a zone of this origin that holds this: for what is newer, or for all of it where nothing is loaded or
-- the zone is marked
abbrev pub request_for : ℕ → Bool → Name → Option Content → Message
request_for id marked origin None = whole_request id origin
request_for id marked origin (Some content) =
    if marked then whole_request id origin else newer_request id origin content.soa

-- what is published with the zone of this number marked, or not marked
abbrev pub with_zone_mark : Published → ℕ → Bool → Published
with_zone_mark published number marked =
    record {
      list = published.list;
      version = published.version;
      marks = with_mark published.marks number marked;
    }

-- after a refusal all of the zone is asked for next, where what is newer was wanted, or where it was so before
abbrev pub after_refusal : Published → ℕ → PlainZone → Published
after_refusal published number zone =
    let marked = mark_at published.marks number in
    with_zone_mark published number (marked || asks_newer (wanted_of marked zone.content))
