-- What an index lends, as plain values.
use Rattle.trigger_codec.specs.declared.trigger.Trigger.{Trigger}
use Rattle.trigger_codec.specs.declared.trigger.Trigger.TheVariants as triggers
use Rattle.rpz_precedence.specs.declared.trigger_ref.TriggerRef.{TriggerRef}
use Rattle.rpz_precedence.specs.declared.trigger_ref.TriggerRef.TheVariants.{ClientIp, Qname, ResponseIp, NsDname, NsIp}
use Rattle.rpz_precedence.specs.declared.hit.Hit.{Hit}
use Rattle.action_codec.specs.Seen.{action_seen}
use Rattle.rpz_precedence.specs.Best.{PlainHit}

abbrev pub trigger_seen : TriggerRef → Trigger
trigger_seen (ClientIp prefix) = triggers.ClientIp prefix
trigger_seen (Qname pattern) = triggers.Qname pattern
trigger_seen (ResponseIp prefix) = triggers.ResponseIp prefix
trigger_seen (NsDname pattern) = triggers.NsDname pattern
trigger_seen (NsIp prefix) = triggers.NsIp prefix

abbrev pub hit_seen : Hit → PlainHit
hit_seen hit =
    record {
      rank = record { position = hit.position; zone = hit.zone; trigger = trigger_seen hit.trigger };
      action = action_seen hit.action;
      soa = hit.soa.now;
    }
