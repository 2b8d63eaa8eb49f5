-- The rules about the addresses of an answer (draft-vixie-dnsop-dns-rpz, section 4.3).
use Rattle.std.specs.Prelude.{Bool, true, false, ◌&&◌, List, [], ◌∷◌, Option, Some, None}
use Rattle.std.specs.List.{find, list_any}
use Rattle.dns_name.specs.Labels.{Name}
use Rattle.dns_name.specs.Alike.{same_name}
use Rattle.dns_record.specs.Address.{address_in}
use Rattle.dns_record.specs.Record.{PlainRecord}
use Rattle.ip_prefix.specs.declared.Addr.{Addr}
use Rattle.ip_prefix.specs.Prefix.{PlainPrefix, contains}

abbrev pub is_held : PlainPrefix → Option Addr → Bool
is_held prefix None = false
is_held prefix (Some addr) = contains prefix addr

-- the record belongs to the name, and holds an address that begins with the prefix
abbrev pub holds_within : PlainPrefix → Name → PlainRecord → Bool
holds_within prefix owner r = same_name r.owner owner && is_held prefix (address_in r)

-- The entry that comes first of those whose prefix contains some address that the records hold for the name.
abbrev pub first_about : {V : Type 0} → Name → List PlainRecord → List (PlainPrefix × V) →
    Option (PlainPrefix × V)
first_about owner records entries = find (λ e. list_any (holds_within e.0 owner) records) entries

-- there is an entry
abbrev pub has_some : {X : Type 0} → List X → Bool
has_some [] = false
has_some (x ∷ xs) = true
