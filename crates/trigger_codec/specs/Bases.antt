-- Triggers as rows name them: the base of a pattern is a name in lower case.
use Rattle.std.specs.Prelude.{◌≡◌}
use Rattle.dns_name.specs.Alike.{PlainPattern}
use Rattle.dns_name.specs.Labels.{IsName, lowered}
use Rattle.trigger_codec.specs.declared.trigger.Trigger.{Trigger}
use Rattle.trigger_codec.specs.declared.trigger.Trigger.TheVariants.{ClientIp, Qname, ResponseIp, NsDname, NsIp}

pub record IsPattern (pattern : PlainPattern) : Type 0 where
  pub is_base : IsName pattern.base
  pub is_lower_case : lowered pattern.base ≡ pattern.base

-- the trigger's pattern, if it has one, is of a name in lower case
abbrev pub IsTrigger : Trigger → Type 0
IsTrigger (ClientIp prefix) = Unit {0}
IsTrigger (Qname pattern) = IsPattern pattern
IsTrigger (ResponseIp prefix) = Unit {0}
IsTrigger (NsDname pattern) = IsPattern pattern
IsTrigger (NsIp prefix) = Unit {0}
