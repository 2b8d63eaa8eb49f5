-- The trigger that an owner names (draft-vixie-dnsop-dns-rpz, section 4).
use Rattle.std.specs.Prelude.{◌≡◌, ℕ, ◌-◌, ◌==◌, true, false, if◌then◌else◌, List, [], ◌∷◌, length, take, Option, Some, None, Result, Ok, Err, slice_get}
use Rattle.dns_name.specs.Alike.{PlainPattern, ends_with}
use Rattle.dns_name.specs.Labels.{lowered, Name, Label}
use Rattle.ip_prefix.specs.Prefix.{PlainPrefix}
use Rattle.trigger_codec.specs.Address.{prefix_read}
use Rattle.trigger_codec.specs.declared.inert.Inert.{Inert}
use Rattle.trigger_codec.specs.declared.inert.Inert.TheVariants.{OutOfZone, Apex, Marker as UnknownMarker}
use Rattle.trigger_codec.specs.declared.inert.TriggerError.{TriggerError}
use Rattle.trigger_codec.specs.declared.inert.TriggerError.TheVariants as errors
use Rattle.trigger_codec.specs.declared.trigger.Trigger.{Trigger}
use Rattle.trigger_codec.specs.declared.trigger.Trigger.TheVariants.{ClientIp, Qname, ResponseIp, NsDname, NsIp}
use Rattle.trigger_codec.specs.Trigger.{Marker, client_ip, response_ip, nsip, nsdname, unknown, plain, marker_of, is_asterisk}

-- the labels before those of the zone
abbrev pub labels_before : List Label → List Label → List Label
labels_before owner origin = take (length owner - length origin) owner

-- the pattern of labels: the names below the rest where the first label is `*`, else the one name
abbrev pub pattern_read : Name → PlainPattern
pattern_read [] = record { base = []; wild = false }
pattern_read (first ∷ others) =
    if is_asterisk first then record { base = lowered others; wild = true }
    else record { base = lowered (first ∷ others); wild = false }

abbrev pub by_prefix : (PlainPrefix → Trigger) → Result PlainPrefix Inert → Result Trigger Inert
by_prefix kind (Ok prefix) = Ok (kind prefix)
by_prefix kind (Err inert) = Err inert

-- the trigger that labels name, by the kind that the last of them names
abbrev pub by_marker : Marker → List Label → List Label → Result Trigger Inert
by_marker client_ip rest labels = by_prefix ClientIp (prefix_read rest)
by_marker response_ip rest labels = by_prefix ResponseIp (prefix_read rest)
by_marker nsip rest labels = by_prefix NsIp (prefix_read rest)
by_marker nsdname rest labels =
    if length rest == 0 then Err UnknownMarker else Ok (NsDname (pattern_read rest))
by_marker unknown rest labels = Err UnknownMarker
by_marker plain rest labels = Ok (Qname (pattern_read labels))

abbrev pub by_last : Option (List ℕ) → List Label → Result Trigger Inert
by_last None labels = Err Apex
by_last (Some last) labels = by_marker (marker_of last) (take (length labels - 1) labels) labels

-- the trigger that the labels before those of the zone name
unfoldable pub labels_trigger : List Label → Result Trigger Inert
labels_trigger labels = by_last (slice_get labels (length labels - 1)) labels

-- The trigger that an owner names in the zone of this origin, or why it names none.
unfoldable pub trigger : Name → Name → Result Trigger Inert
trigger owner origin =
    if ends_with owner origin then labels_trigger (labels_before owner origin) else Err OutOfZone

-- What a function returned is this, unless memory ran out.
abbrev pub Fails : {X : Type 0} → TriggerError → Result X Inert → Type 0
Fails errors.OutOfMemory outcome = Unit {0}
Fails (errors.Inert inert) outcome = outcome ≡ Err inert

abbrev pub Gives : {X : Type 0} → Result X TriggerError → Result X Inert → Type 0
Gives (Ok x) outcome = outcome ≡ Ok x
Gives (Err e) outcome = Fails e outcome
