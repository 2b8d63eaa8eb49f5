-- What an operator sets over the rules of a policy zone.
use Rattle.std.specs.Prelude.{ℕ, Bool, true, false, if◌then◌else◌, List, Option, Some, None, codes}
use Rattle.std.specs.Str.{bytes_eq}
use Rattle.policy_override.specs.declared.overrides.Override.{Override}
use Rattle.policy_override.specs.declared.overrides.Override.TheVariants.{Given, Disabled, NxDomain, NoData, PassThru, Drop, TcpOnly, Cname}

-- the override that a word names, in lower case; `cname` names none, since it wants a target
unfoldable pub named_override : List ℕ → Option Override
named_override word =
    if bytes_eq word (codes "given") then Some Given
    else (if bytes_eq word (codes "disabled") then Some Disabled
    else (if bytes_eq word (codes "nxdomain") then Some NxDomain
    else (if bytes_eq word (codes "nodata") then Some NoData
    else (if bytes_eq word (codes "passthru") then Some PassThru
    else (if bytes_eq word (codes "drop") then Some Drop
    else (if bytes_eq word (codes "tcp-only") then Some TcpOnly
    else None))))))

-- The rules of a zone under this override count: it isn't `disabled`.
abbrev pub is_ruling : Override → Bool
is_ruling Given = true
is_ruling Disabled = false
is_ruling NxDomain = true
is_ruling NoData = true
is_ruling PassThru = true
is_ruling Drop = true
is_ruling TcpOnly = true
is_ruling (Cname target) = true
