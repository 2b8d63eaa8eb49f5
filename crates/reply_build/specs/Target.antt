-- The alias of a rule (draft-vixie-dnsop-dns-rpz, section 3.6).
use Rattle.std.specs.Prelude.{ℕ, ◌==◌, if◌then◌else◌, List, [], ◌∷◌, Option, Some, None, Result, Ok, Err}
use Rattle.dns_name.specs.Labels.{Name}
use Rattle.dns_name.specs.Join.{join_outcome}
use Rattle.dns_name.specs.Reading.{NameOutcome, name_at}
use Rattle.dns_name.specs.declared.fault.TooLong.{TooLong}
use Rattle.dns_record.specs.declared.rtype.TheConstants.{CNAME}
use Rattle.trigger_codec.specs.Trigger.{is_asterisk}
use Rattle.action_codec.specs.Local.{PlainLocal}

-- local data that is one CNAME row is an alias
abbrev pub alias_in : List PlainLocal → Option PlainLocal
alias_in [] = None
alias_in (row ∷ []) = if row.rtype == CNAME then Some row else None
alias_in (row ∷ other ∷ rows) = None

abbrev pub if_ok : Result Name TooLong → Option Name
if_ok (Ok name) = Some name
if_ok (Err too_long) = None

-- `*.X` stands for the name that is answered for followed by X, unless X is the root
abbrev pub target_by : Name → Name → Option Name
target_by name [] = Some []
target_by name (label ∷ []) = Some (label ∷ [])
target_by name (label ∷ next ∷ others) =
    if is_asterisk label then if_ok (join_outcome name (next ∷ others))
    else Some (label ∷ next ∷ others)

abbrev pub target_in : Name → NameOutcome → Option Name
target_in name (Ok found) = target_by name found.0
target_in name (Err fault) = None

-- The name that an alias leads to (draft-vixie-dnsop-dns-rpz, section 3.6). It is the one that its data is, or with an asterisk
-- the name that is answered for in its place. None if that is longer than a name may be.
abbrev pub target_of : Name → List ℕ → Option Name
target_of name rdata = target_in name (name_at rdata 0)
