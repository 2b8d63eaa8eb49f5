-- The kind of a trigger (draft-vixie-dnsop-dns-rpz, section 4), and the order of kinds (section 5).
use Rattle.std.specs.Prelude.{ℕ}
use Rattle.trigger_codec.specs.declared.trigger.Kind.{Kind}
use Rattle.trigger_codec.specs.declared.trigger.Kind.TheVariants as kinds
use Rattle.trigger_codec.specs.declared.trigger.Trigger.{Trigger}
use Rattle.trigger_codec.specs.declared.trigger.Trigger.TheVariants.{ClientIp, Qname, ResponseIp, NsDname, NsIp}

-- the kind of a trigger
abbrev pub kind_of : Trigger → Kind
kind_of (ClientIp prefix) = kinds.ClientIp
kind_of (Qname pattern) = kinds.Qname
kind_of (ResponseIp prefix) = kinds.ResponseIp
kind_of (NsDname pattern) = kinds.NsDname
kind_of (NsIp prefix) = kinds.NsIp

-- the kinds in order of precedence
abbrev pub kind_place : Kind → ℕ
kind_place kinds.ClientIp = 0
kind_place kinds.Qname = 1
kind_place kinds.ResponseIp = 2
kind_place kinds.NsDname = 3
kind_place kinds.NsIp = 4
