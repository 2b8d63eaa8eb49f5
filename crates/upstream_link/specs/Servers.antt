-- The name servers of a name and of the names above it, and their addresses (draft-vixie-dnsop-dns-rpz, sections 4.4 and 4.5).
use Rattle.std.specs.Prelude.{ℕ, ◌==◌, ◌&&◌, if◌then◌else◌, List, [], ◌∷◌, ◌++◌, reverse, Option, None}
use Rattle.std.specs.List.{flat_map}
use Rattle.std.specs.Option.{option_map, option_to_list}
use Rattle.dns_name.specs.Alike.{same_name}
use Rattle.dns_name.specs.Labels.{lowered, Name}
use Rattle.dns_record.specs.Address.{address_in}
use Rattle.dns_record.specs.Record.{PlainRecord}
use Rattle.ip_prefix.specs.declared.Addr.{Addr}
use Rattle.dns_record.specs.declared.rtype.TheConstants.{A, AAAA, NS}
use Rattle.upstream_link.specs.Chain.{name_in}
use Rattle.upstream_link.specs.Facts.{PlainFacts, records_about}

-- a name and the names above it that have at least two labels, the longest first
abbrev pub longest_first : Name → List Name
longest_first [] = []
longest_first (label ∷ []) = []
longest_first (label ∷ next ∷ labels) = (label ∷ next ∷ labels) ∷ longest_first (next ∷ labels)

-- A name and the names above it that have at least two labels, the shortest first.
abbrev pub ancestors : Name → List Name
ancestors name = reverse (longest_first name)

-- the name of a server in lower case, if the record is an NS record of this owner
abbrev pub server_in : Name → PlainRecord → Option Name
server_in owner r =
    if r.rtype == NS && same_name r.owner owner then option_map lowered (name_in r) else None

-- the names of servers in the NS records of this owner
abbrev pub servers_in : Name → List PlainRecord → List Name
servers_in owner records = flat_map (λ r. option_to_list (server_in owner r)) records

-- the servers of exactly this name, as far as they are known
abbrev pub servers_at : PlainFacts → Name → List Name
servers_at facts name = servers_in name (records_about facts name NS)

-- The servers of a name and of the names above it, in lower case, as far as they are known.
abbrev pub servers : PlainFacts → Name → List Name
servers facts name = flat_map (servers_at facts) (ancestors name)

-- The records that are known about the addresses of a server: the answers of types A and AAAA.
abbrev pub address_records : PlainFacts → Name → List PlainRecord
address_records facts server = records_about facts server A ++ records_about facts server AAAA

-- the address that a record of this owner holds
abbrev pub address_of : Name → PlainRecord → Option Addr
address_of owner r = if same_name r.owner owner then address_in r else None

-- the addresses in the records of this owner
abbrev pub addresses_in : Name → List PlainRecord → List Addr
addresses_in owner records = flat_map (λ r. option_to_list (address_of owner r)) records

-- The addresses of servers, as far as they are known.
abbrev pub addresses_of : PlainFacts → List Name → List Addr
addresses_of facts names =
    flat_map (λ server. addresses_in server (address_records facts server)) names
