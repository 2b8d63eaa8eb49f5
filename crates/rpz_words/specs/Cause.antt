-- Why words ask for nothing, as text.
use Rattle.std.specs.Prelude.{ℕ, List, ◌++◌, codes, decimal}
use Rattle.networks.specs.declared.network_text.NetworkTextFault.{NetworkTextFault}
use Rattle.networks.specs.declared.network_text.NetworkTextFault.TheVariants as network
use Rattle.rpz_words.specs.declared.usage_cause.AllowFault.{AllowFault}
use Rattle.rpz_words.specs.declared.usage_cause.AllowFault.TheVariants as allow
use Rattle.rpz_words.specs.declared.usage_cause.Argument.{Argument}
use Rattle.rpz_words.specs.declared.usage_cause.Argument.TheVariants as argument
use Rattle.rpz_words.specs.declared.usage_cause.EndpointFault.{EndpointFault}
use Rattle.rpz_words.specs.declared.usage_cause.EndpointFault.TheVariants as endpoint
use Rattle.rpz_words.specs.declared.usage_cause.ListFault.{ListFault}
use Rattle.rpz_words.specs.declared.usage_cause.ListFault.TheVariants as listen
use Rattle.rpz_words.specs.declared.usage_cause.UsageCause.{UsageCause}
use Rattle.rpz_words.specs.declared.usage_cause.UsageCause.TheVariants as cause
use Rattle.rpz_words.specs.declared.usage_cause.ZonesFault.{ZonesFault}
use Rattle.rpz_words.specs.declared.usage_cause.ZonesFault.TheVariants as zones
use Rattle.rpz_words.specs.declared.usage_cause.ZoneWordFault.{ZoneWordFault}
use Rattle.rpz_words.specs.declared.usage_cause.ZoneWordFault.TheVariants as zone

-- an argument by its name, an option with its dashes
abbrev pub argument_text : Argument → List ℕ
argument_text argument.Turns = codes "TURNS"
argument_text argument.Workers = codes "WORKERS"
argument_text argument.Askers = codes "--askers"
argument_text argument.Cache = codes "--cache"
argument_text argument.Hold = codes "--hold"
argument_text argument.TcpClients = codes "--tcp-clients"
argument_text argument.TcpPerClient = codes "--tcp-per-client"
argument_text argument.Seed = codes "SEED"
argument_text argument.Rules = codes "RULES"
argument_text argument.Queries = codes "QUERIES"

abbrev pub endpoint_word : EndpointFault → List ℕ
endpoint_word endpoint.Form = codes "Form"
endpoint_word endpoint.Address = codes "Address"
endpoint_word endpoint.Mapped = codes "Mapped"
endpoint_word endpoint.Port = codes "Port"

abbrev pub network_word : NetworkTextFault → List ℕ
network_word network.Form = codes "Form"
network_word network.Address = codes "Address"
network_word network.Length = codes "Length"
network_word network.HostBits = codes "HostBits"

abbrev pub zone_word : ZoneWordFault → List ℕ
zone_word zone.Form = codes "Form"
zone_word zone.Name = codes "Name"
zone_word (zone.Primary why) = endpoint_word why
zone_word zone.Override = codes "Override"

abbrev pub zones_word : ZonesFault → List ℕ
zones_word zones.Many = codes "Many"
zones_word zones.Repeated = codes "Repeated"

-- what is wrong with LISTEN, or with one of its endpoints
abbrev pub list_text : ListFault → List ℕ
list_text listen.Many = codes "LISTEN: Many"
list_text (listen.At number why) =
    codes "LISTEN " ++ (decimal number ++ (codes ": " ++ endpoint_word why))
list_text listen.Repeated = codes "LISTEN: Repeated"

-- what is wrong with the value of `--allow`, or with one of its networks
abbrev pub allow_text : AllowFault → List ℕ
allow_text allow.Many = codes "--allow: Many"
allow_text (allow.At number why) =
    codes "--allow " ++ (decimal number ++ (codes ": " ++ network_word why))
allow_text allow.Repeated = codes "--allow: Repeated"

-- what standard error says of a cause
abbrev pub cause_text : UsageCause → List ℕ
cause_text cause.Words = codes "usage"
cause_text (cause.Value argument) = codes "usage: " ++ argument_text argument
cause_text (cause.Listen why) = codes "usage: " ++ list_text why
cause_text (cause.Upstream why) = codes "usage: UPSTREAM: " ++ endpoint_word why
cause_text (cause.Allow why) = codes "usage: " ++ allow_text why
cause_text (cause.Zone number why) =
    codes "usage: ZONE@PRIMARY " ++ (decimal number ++ (codes ": " ++ zone_word why))
cause_text (cause.Zones why) = codes "usage: ZONE@PRIMARY: " ++ zones_word why
