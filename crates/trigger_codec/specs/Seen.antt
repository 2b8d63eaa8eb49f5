-- What the code distinguishes, as values of the definitions.
use Rattle.std.specs.Prelude.{ℕ, Bool, false, List, [], ◌∷◌}
use Rattle.dns_name.specs.Labels.{Name}
use Rattle.trigger_codec.specs.declared.marker.Marker.{Marker as Told}
use Rattle.trigger_codec.specs.declared.marker.Marker.TheVariants.{ClientIp, ResponseIp, NsIp, NsDname, Unknown, Plain}
use Rattle.trigger_codec.specs.declared.runs.Run.{Run as RunTold}
use Rattle.trigger_codec.specs.Canonical.{Run}
use Rattle.trigger_codec.specs.Trigger.{Marker, client_ip, response_ip, nsip, nsdname, unknown, plain, is_asterisk}

-- what a label names
abbrev pub marker_seen : Told → Marker
marker_seen ClientIp = client_ip
marker_seen ResponseIp = response_ip
marker_seen NsIp = nsip
marker_seen NsDname = nsdname
marker_seen Unknown = unknown
marker_seen Plain = plain

-- a run of zero words
abbrev pub run_seen : RunTold → Run
run_seen run = record { place = run.place; long = run.long }

-- the first label is `*`
abbrev pub first_is_asterisk : Name → Bool
first_is_asterisk [] = false
first_is_asterisk (first ∷ others) = is_asterisk first
