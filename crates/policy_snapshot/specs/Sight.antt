-- What look-ups of rules take at a position of the chain of aliases.
use Rattle.std.specs.Prelude.{ℕ, List, map}
use Rattle.dns_name.specs.Labels.{Name}
use Rattle.dns_record.specs.Record.{PlainRecord}
use Rattle.dns_message.specs.declared.request.Query.{Query}
use Rattle.ip_prefix.specs.declared.Addr.{Addr}
use Rattle.upstream_link.specs.Facts.{PlainFacts, main_records}
use Rattle.policy_snapshot.specs.declared.sight.Sight.{Sight}

-- the position, the client, the name there, the records of the answer to the query, the servers of the name in lists, and the
-- addresses of these servers
pub record PlainSight : Type 0 where
  pub position : ℕ
  pub client : Addr
  pub name : Name
  pub records : List PlainRecord
  pub servers : List (List Name)
  pub addresses : List Addr

-- what the code holds by reference
abbrev pub sight_seen : Sight → PlainSight
sight_seen s =
    record {
      position = s.position;
      client = s.client;
      name = s.name.now;
      records = s.records;
      servers = map (λ list. list.now) s.servers.now;
      addresses = s.addresses.now;
    }

-- by what is known, with these servers and addresses
abbrev pub sight_of : Query → PlainFacts → ℕ → Name → List (List Name) →
    List Addr → PlainSight
sight_of query facts position name lists addresses = record {
  position = position;
  client = query.client;
  name = name;
  records = main_records query facts;
  servers = lists;
  addresses = addresses;
}
