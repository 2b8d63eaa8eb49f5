-- The address that a record holds (RFC 1035, section 3.4.1; RFC 3596, section 2.2).
use Rattle.std.specs.Prelude.{ℕ, ◌==◌, if◌then◌else◌, List, Option, Some, None}
use Rattle.ip_prefix.specs.declared.Addr.{Addr}
use Rattle.ip_prefix.specs.declared.Addr.TheVariants.{V4, V6}
use Rattle.dns_record.specs.Number.{number_at}
use Rattle.dns_record.specs.Record.{PlainRecord}
use Rattle.dns_record.specs.declared.rtype.TheConstants.{A, AAAA}
use Rattle.dns_record.specs.declared.class.TheConstants.{IN}

-- the data of A is an address of version 4, and that of AAAA one of version 6
abbrev pub address_by : ℕ → List ℕ → Option Addr
address_by rtype rdata =
    if rtype == A then Some (V4 (number_at 4 rdata 0))
    else (if rtype == AAAA then Some (V6 (number_at 16 rdata 0)) else None)

-- an A or AAAA record of class IN holds an address
abbrev pub address_in : PlainRecord → Option Addr
address_in r = if r.class == IN then address_by r.rtype r.rdata else None
