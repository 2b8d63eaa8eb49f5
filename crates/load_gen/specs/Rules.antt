-- The rules of a load, each from three draws (draft-vixie-dnsop-dns-rpz, sections 3 and 4).
use Rattle.std.specs.Prelude.{ℕ, zero, suc, ◌+◌, ◌*◌, ◌/◌, ◌%◌, ◌==◌, if◌then◌else◌, List, [], ◌∷◌, ◌++◌, codes, decimal}
use Rattle.dns_name.specs.Labels.{name_octets, Name}
use Rattle.dns_record.specs.Record.{PlainRecord}
use Rattle.dns_record.specs.declared.rtype.TheConstants.{CNAME}
use Rattle.dns_record.specs.declared.class.TheConstants.{IN}
use Rattle.load_gen.specs.Draws.{after_three, after_two, draw, drawn_in, next_state}
use Rattle.load_gen.specs.Written.{host_text, written_name}

-- what a rule's CNAME record leads to: NXDOMAIN, NODATA or PASSTHRU
abbrev pub target_text : ℕ → List ℕ
target_text action =
    if action == 0 then codes "."
    else (if action == 1 then codes "*."
    else codes "rpz-passthru.")

-- `hH.gG.example`, `*.hH.gG.example`, `32.C.B.0.10.rpz-ip` or `24.0.C.B.10.rpz-client-ip`, in the zone `rpz.example`
abbrev pub owner_text : ℕ → ℕ → ℕ → List ℕ
owner_text kind b c =
    if kind == 0 then host_text (b % 4096) (c % 64) (codes ".example.rpz.example")
    else (if kind == 1
    then codes "*." ++ host_text (b % 4096) (c % 64) (codes ".example.rpz.example")
    else (if kind == 2
    then codes "32."
    ++ (decimal (c % 256)
    ++ (codes "." ++ (decimal (b % 256) ++ codes ".0.10.rpz-ip.rpz.example")))
    else codes "24.0."
    ++ (decimal (c % 256)
    ++ (codes "." ++ (decimal (b % 256) ++ codes ".10.rpz-client-ip.rpz.example")))))

-- a CNAME record (type 5) of class IN and TTL 60
abbrev pub drawn_alias : Name → Name → PlainRecord
drawn_alias owner target =
    record { owner = owner; rtype = CNAME; class = IN; ttl = 60; rdata = name_octets target }

-- the record of a rule
abbrev pub rule_record : ℕ → ℕ → ℕ → PlainRecord
rule_record a b c =
    drawn_alias (written_name (owner_text (a % 4) b c)) (written_name (target_text (a / 4 % 3)))

-- the rule that comes after so many others
abbrev pub rule_at : ℕ → ℕ → PlainRecord
rule_at seed place =
    rule_record (draw seed (3 * place)) (draw seed (3 * place + 1)) (draw seed (3 * place + 2))

-- the first rules of a seed, so many
unfoldable pub first_rules : ℕ → ℕ → List PlainRecord
first_rules seed zero = []
first_rules seed (suc count) = first_rules seed count ++ rule_at seed count ∷ []

-- the rule that is drawn in a state
abbrev pub rule_from : ℕ → PlainRecord
rule_from x =
    rule_record (drawn_in (next_state x)) (drawn_in (after_two x)) (drawn_in (after_three x))
