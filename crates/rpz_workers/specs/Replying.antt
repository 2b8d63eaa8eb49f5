-- The replies that are sent to clients.
use Rattle.std.specs.Prelude.{ℕ, if◌then◌else◌, List, Option, Some, None}
use Rattle.dns_record.specs.Number.{number_at}
use Rattle.dns_message.specs.Request.{speaks_in}
use Rattle.reply_build.specs.Servfail.{bare_servfail}
use Rattle.reply_build.specs.declared.said.Said.{Said}
use Rattle.reply_build.specs.declared.said.Said.TheVariants as said
use Rattle.rpz_workers.specs.declared.outcome.Outcome.{Outcome}
use Rattle.rpz_workers.specs.declared.outcome.Outcome.TheVariants as outcome

-- the reply to a message for which memory ran out: a header of its ID with rcode 2; None where such a message is never answered
abbrev pub bare_reply : List ℕ → Option (List ℕ)
bare_reply message =
    if speaks_in message then Some (bare_servfail (number_at 2 message 0)) else None

-- the bytes of a reply; None where there is none
abbrev pub reply_bytes : Said → Option (List ℕ)
reply_bytes (said.Reply bytes) = Some bytes
reply_bytes said.Silent = None

-- what is sent for a message: the reply, or the bare one where memory ran out for it; None where nothing is sent
abbrev pub to_send : List ℕ → Outcome → Option (List ℕ)
to_send message (outcome.Said what) = reply_bytes what
to_send message outcome.NoMemory = bare_reply message
to_send message outcome.PassedOn = None
