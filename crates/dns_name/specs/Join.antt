-- Names made of others.
use Rattle.std.specs.Prelude.{◌≡◌, ℕ, nat_lt, if◌then◌else◌, List, [], ◌∷◌, ◌++◌, length, Option, Some, None, Result, Ok, Err}
use Rattle.dns_name.specs.declared.limits.TheConstants.{NAME_LIMIT}
use Rattle.dns_name.specs.Labels.{name_octets, Name}
use Rattle.dns_name.specs.declared.fault.TooLong.{TooLong}
use Rattle.dns_name.specs.declared.fault.JoinError.{JoinError}
use Rattle.dns_name.specs.declared.fault.JoinError.TheVariants as errors

-- the name without its first label; the root has none
abbrev pub parent_of : Name → Option Name
parent_of [] = None
parent_of (label ∷ others) = Some others

-- the first name's labels and then the other's, unless they are written in more than 255 bytes (RFC 1035, section 2.3.4)
abbrev pub join_outcome : Name → Name → Result Name TooLong
join_outcome front back =
    if nat_lt NAME_LIMIT (length (name_octets (front ++ back))) then Err (record {})
    else Ok (front ++ back)

-- What a function returned is this, unless memory ran out.
abbrev pub JoinFails : JoinError → Result Name TooLong → Type 0
JoinFails errors.OutOfMemory outcome = Unit {0}
JoinFails (errors.Fault fault) outcome = outcome ≡ Err fault

abbrev pub JoinGives : Result Name JoinError → Result Name TooLong → Type 0
JoinGives (Ok name) outcome = outcome ≡ Ok name
JoinGives (Err e) outcome = JoinFails e outcome
