-- What the rows of a rule do (draft-vixie-dnsop-dns-rpz, section 3).
use Rattle.std.specs.Prelude.{ℕ, Bool, false, not, ◌==◌, ◌+◌, ◌&&◌, nat_lt, if◌then◌else◌, List, [], ◌∷◌, map, length, take, drop, slice_index, Option, Some, None, codes}
use Rattle.std.specs.List.{list_any}
use Rattle.std.specs.Str.{bytes_eq}
use Rattle.dns_name.specs.Alike.{PlainPattern}
use Rattle.dns_name.specs.Labels.{name_octets, Name}
use Rattle.trigger_codec.specs.declared.trigger.Trigger.{Trigger}
use Rattle.trigger_codec.specs.declared.trigger.Trigger.TheVariants.{ClientIp, Qname, ResponseIp, NsDname, NsIp}
use Rattle.dns_record.specs.Row.{PlainRow}
use Rattle.dns_record.specs.declared.rtype.TheConstants.{CNAME, DNAME, DNSKEY, DS, NS, NSEC, NSEC3, NSEC3PARAM, RRSIG, SOA}
use Rattle.action_codec.specs.declared.action.Action.{Action}
use Rattle.action_codec.specs.declared.action.Action.TheVariants.{NxDomain, NoData, PassThru, Drop, TcpOnly, Local}
use Rattle.action_codec.specs.Local.{local_row, rule_rows}

-- not NS, SOA, DNAME, DS, RRSIG, NSEC, DNSKEY, NSEC3 or NSEC3PARAM
abbrev pub is_live_type : ℕ → Bool
is_live_type rtype =
    not (list_any (λ n. rtype == n)
    (NS ∷ SOA ∷ DNAME ∷ DS ∷ RRSIG ∷ NSEC ∷ DNSKEY ∷ NSEC3 ∷ NSEC3PARAM ∷ []))

abbrev pub is_cname : PlainRow → Bool
is_cname row = row.rtype == CNAME

-- the data is this name as it is written
abbrev pub points_to : List ℕ → Name → Bool
points_to rdata name = bytes_eq rdata (name_octets name)

-- a name of a single label that begins `rpz-`: one length, its label, and the zero of the root
abbrev pub is_reserved_name : List ℕ → Bool
is_reserved_name rdata =
    nat_lt 4 (length rdata)
    && (slice_index rdata 0 + 2 == length rdata && bytes_eq (take 4 (drop 1 rdata)) (codes "rpz-"))

-- the name that the owner of a pattern writes
abbrev pub own_name : PlainPattern → Name
own_name pattern = if pattern.wild then codes "*" ∷ pattern.base else pattern.base

-- the pattern of a trigger that is about a name that is asked for
abbrev pub own_pattern : Trigger → Option PlainPattern
own_pattern (ClientIp prefix) = None
own_pattern (Qname pattern) = Some pattern
own_pattern (ResponseIp prefix) = None
own_pattern (NsDname pattern) = None
own_pattern (NsIp prefix) = None

-- the data is the name of the rule's own pattern
abbrev pub is_own_name : Option PlainPattern → List ℕ → Bool
is_own_name None rdata = false
is_own_name (Some pattern) rdata = points_to rdata (own_name pattern)

-- the row as local data
abbrev pub local_alone : PlainRow → Option Action
local_alone row = Some (Local (local_row row ∷ []))

-- What one CNAME row does (draft-vixie-dnsop-dns-rpz, section 3).
unfoldable pub cname_action : Option PlainPattern → PlainRow → Option Action
cname_action own row =
    if points_to row.rdata [] then Some NxDomain
    else (if points_to row.rdata (codes "*" ∷ []) then Some NoData
    else (if points_to row.rdata (codes "rpz-passthru" ∷ []) then Some PassThru
    else (if points_to row.rdata (codes "rpz-drop" ∷ []) then Some Drop
    else (if points_to row.rdata (codes "rpz-tcp-only" ∷ []) then Some TcpOnly
    else (if is_reserved_name row.rdata then None
    else (if is_own_name own row.rdata then Some PassThru
    else local_alone row))))))

-- what one row does
abbrev pub one_action : Option PlainPattern → PlainRow → Option Action
one_action own row = if is_cname row then cname_action own row else local_alone row

-- what several rows do: nothing where a CNAME row is among them
abbrev pub several_action : List PlainRow → Option Action
several_action rows = if list_any is_cname rows then None else Some (Local (map local_row rows))

-- what rows do that are in their order
abbrev pub rows_action : Option PlainPattern → List PlainRow → Option Action
rows_action own [] = None
rows_action own (row ∷ []) = one_action own row
rows_action own (row ∷ other ∷ rows) = several_action (row ∷ other ∷ rows)

-- what a rule does that has these live rows, and this pattern where it is about a name that is asked for
abbrev pub action_for : Option PlainPattern → List PlainRow → Option Action
action_for own rows = rows_action own (rule_rows rows)

-- What a rule does that has this trigger and these live rows.
abbrev pub action_by : Trigger → List PlainRow → Option Action
action_by trigger rows = action_for (own_pattern trigger) rows
