-- How records age while they are kept (RFC 1035, section 3.2.1; RFC 2308, section 5).
use Rattle.std.specs.Prelude.{ℕ, ◌-◌}
use Rattle.dns_record.specs.Record.{PlainRecord}

-- a record when so many seconds have passed since it came: its TTL is less by these, and 0 at the least
abbrev pub aged : ℕ → PlainRecord → PlainRecord
aged seconds r =
    record {
      owner = r.owner;
      rtype = r.rtype;
      class = r.class;
      ttl = r.ttl - seconds;
      rdata = r.rdata;
    }
