-- How long a reply may be (RFC 1035, section 4.2.2).
use Rattle.std.specs.Prelude.{◌≤◌, length}
use Rattle.dns_message.specs.declared.limit.TheConstants.{GREATEST_LIMIT}
use Rattle.reply_build.specs.declared.said.Said.{Said}
use Rattle.reply_build.specs.declared.said.Said.TheVariants as said
use Rattle.reply_build.specs.declared.turn.Turn.{Turn}
use Rattle.reply_build.specs.declared.turn.Turn.TheVariants as turn

-- a reply fits a message over TCP
abbrev pub IsShort : Said → Type 0
IsShort (said.Reply octets) = length octets ≤ GREATEST_LIMIT
IsShort said.Silent = Unit {0}

-- the reply of a turn, if there is one, fits a message over TCP
abbrev pub SaysShort : Turn → Type 0
SaysShort (turn.Ask question) = Unit {0}
SaysShort (turn.Said what) = IsShort what
