-- Who may ask.
use Rattle.std.specs.Prelude.{◌==◌, ◌&&◌, Bool, true, false, List, [], ◌∷◌}
use Rattle.std.specs.List.{list_any}
use Rattle.ip_prefix.specs.declared.Addr.{Addr}
use Rattle.ip_prefix.specs.declared.Addr.TheVariants.{V4, V6}
use Rattle.ip_prefix.specs.Prefix.{PlainPrefix, contains}

-- the address is in one of the networks
abbrev pub is_in_one : List PlainPrefix → Addr → Bool
is_in_one networks addr = list_any (λ network. contains network addr) networks

-- A client may ask if it is in one of the networks, or if there is none.
abbrev pub is_allowed : List PlainPrefix → Addr → Bool
is_allowed [] addr = true
is_allowed (first ∷ others) addr = is_in_one (first ∷ others) addr

-- the same version and the same number
abbrev pub is_same_addr : Addr → Addr → Bool
is_same_addr (V4 a) (V4 b) = a == b
is_same_addr (V4 a) (V6 b) = false
is_same_addr (V6 a) (V4 b) = false
is_same_addr (V6 a) (V6 b) = a == b

-- the same address and the same length
abbrev pub is_same_network : PlainPrefix → PlainPrefix → Bool
is_same_network a b = is_same_addr a.addr b.addr && a.length == b.length

-- one of the networks is this one
abbrev pub has_network : List PlainPrefix → PlainPrefix → Bool
has_network networks network = list_any (λ other. is_same_network other network) networks
