-- What is said to a client that may not ask.
use Rattle.std.proofs.Common.{◌≡◌, ℕ, Bool, true, false, if◌then◌else◌, List, refl, sym, ◌∙◌}
use Rattle.std.specs.Prelude.{not}
use Rattle.ip_prefix.specs.declared.Addr.{Addr}
use Rattle.ip_prefix.specs.declared.Transport.{Transport}
use Rattle.dns_message.specs.declared.limit.TheConstants.{LEAST_LIMIT}
use Rattle.dns_message.specs.declared.message.Message.{Message}
use Rattle.dns_message.specs.declared.request.Incoming.TheVariants.{Silent, Refuse}
use Rattle.dns_message.specs.Compressed.{compressed_within}
use Rattle.dns_message.specs.Request.{incoming_of, speaks_in, turned_away}
use Rattle.policy_snapshot.specs.Policy.{PlainPolicy}
use Rattle.reply_build.specs.declared.said.Said.TheVariants as said
use Rattle.reply_build.specs.declared.turn.Turn.TheVariants.{Said}
use Rattle.upstream_link.specs.Facts.{PlainFacts}
use Rattle.query_session.specs.Session.{said_outside, turn_by}

-- by whether the message is one to which anything is said
by_speaking : (speaks : Bool) (message : Message) (policy : PlainPolicy) (facts : PlainFacts) → turn_by policy (if not speaks then Silent else Refuse message) facts ≡ Said (if speaks then said.Reply (compressed_within LEAST_LIMIT message) else said.Silent)
by_speaking true message policy facts = refl
by_speaking false message policy facts = refl

pub outside_said : (bytes : List ℕ) (client : Addr) (transport : Transport) (policy : PlainPolicy) (facts : PlainFacts) → turn_by policy (incoming_of false bytes client transport) facts ≡ Said (said_outside bytes)
unfolding incoming_of
outside_said bytes client transport policy facts = by_speaking (speaks_in bytes) (turned_away bytes) policy facts

pub outside_alike : (bytes : List ℕ) (client other : Addr) (transport another : Transport) (policy next : PlainPolicy) (facts more : PlainFacts) → turn_by policy (incoming_of false bytes client transport) facts ≡ turn_by next (incoming_of false bytes other another) more
outside_alike bytes client other transport another policy next facts more = outside_said bytes client transport policy facts ∙ sym (outside_said bytes other another next more)
