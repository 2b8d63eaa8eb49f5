-- What a stream that comes as the transfer of a zone outputs, and how the poll of the zone ended.
use Rattle.std.specs.Prelude.{ℕ, Option, Some, None}
use Rattle.zone_rows.specs.declared.zone.Content.{Content}
use Rattle.zone_rows.specs.declared.zone.PlainZone.{PlainZone}
use Rattle.ixfr_apply.specs.Offer.{Offer, takes, is_current, refuses, content_size}
use Rattle.notify_poll.specs.declared.timer.Polling.{Polling}
use Rattle.notify_poll.specs.declared.timer.Polling.TheVariants.{Done, Faulty}
use Rattle.rpz_core.specs.declared.event.Output.{Output}
use Rattle.rpz_core.specs.declared.event.Output.TheVariants.{Taken, Current, Refused}

-- what is output where a zone took a transfer: the serial and the number of rows that it has now
abbrev pub content_taken : ℕ → Option Content → Output
content_taken number content = Taken number (content_size content).0 (content_size content).1

-- what the zone of this number outputs
abbrev pub offer_output : ℕ → Offer → Output
offer_output number (takes transfer next) = content_taken number next.content
offer_output number (is_current theirs) = Current number theirs
offer_output number (refuses why) = Refused number why

-- the same of a zone of a number that took a transfer
abbrev pub zone_taken : ℕ → Option PlainZone → Output
zone_taken number None = Taken number 0 0
zone_taken number (Some zone) = content_taken number zone.content

-- how a poll ended behind which a zone holds this: the times are those of its SOA record (RFC 1035, section 3.3.13)
abbrev pub polling_by : Option Content → Polling
polling_by None = Faulty
polling_by (Some content) = Done content.soa.refresh content.soa.retry

-- How the poll of a zone ended: it was done where the zone took a transfer or is current, and faulty where it refused one.
abbrev pub polling_of : PlainZone → Offer → Polling
polling_of zone (takes transfer next) = polling_by next.content
polling_of zone (is_current theirs) = polling_by zone.content
polling_of zone (refuses why) = Faulty
