-- The start of a zone of authority (RFC 1035, section 3.3.13).
use Rattle.std.specs.Prelude.{◌≡◌, ℕ, ◌+◌, List, ◌++◌, Result, Ok}
use Rattle.dns_name.specs.Labels.{name_octets, Name}
use Rattle.dns_name.specs.Reading.{◌>>=◌, name_at}
use Rattle.dns_name.specs.declared.fault.NameFault.{NameFault}
use Rattle.dns_record.specs.declared.soa.Soa.{Soa}
use Rattle.dns_record.specs.Number.{number_at, number_octets}
use Rattle.dns_record.specs.Record.{PlainRecord}
use Rattle.dns_record.specs.declared.rtype.TheConstants.{SOA}
use Rattle.dns_record.specs.declared.class.TheConstants.{IN}

-- the data of a SOA record
unfoldable pub soa_octets : Soa → List ℕ
soa_octets soa =
    name_octets soa.mname ++ name_octets soa.rname
    ++ number_octets 4 soa.serial ++ number_octets 4 soa.refresh ++ number_octets 4 soa.retry
    ++ number_octets 4 soa.expire ++ number_octets 4 soa.minimum

-- The record of this owner with this SOA as its data (RFC 1035, section 3.3.13).
abbrev pub soa_record : Name → Soa → PlainRecord
soa_record owner soa =
    record { owner = owner; rtype = SOA; class = IN; ttl = soa.ttl; rdata = soa_octets soa }

-- the SOA that the data holds: two names, and numbers behind them
unfoldable pub soa_in : ℕ → List ℕ → Result Soa NameFault
soa_in ttl rdata = do
  mname ← name_at rdata 0
  rname ← name_at rdata mname.1
  Ok (record {
    mname = mname.0;
    rname = rname.0;
    serial = number_at 4 rdata rname.1;
    refresh = number_at 4 rdata (rname.1 + 4);
    retry = number_at 4 rdata (rname.1 + 8);
    expire = number_at 4 rdata (rname.1 + 12);
    minimum = number_at 4 rdata (rname.1 + 16);
    ttl = ttl;
  })

-- the record is a SOA record, and this is its SOA
abbrev pub IsSoaOf : PlainRecord → Soa → Type 0
IsSoaOf r soa = (r.rtype ≡ SOA) × (soa_in r.ttl r.rdata ≡ Ok soa) × (soa_octets soa ≡ r.rdata)
