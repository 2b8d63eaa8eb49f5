-- Texts of networks: `ADDRESS/LENGTH` (RFC 4632, section 3.1; RFC 4291, section 2.3).
use Rattle.std.specs.Prelude.{ℕ, ◌==◌, Bool, not, if◌then◌else◌, List, Option, Some, None, option_map, Result, Ok, Err}
use Rattle.std.specs.List.{list_any, before_first, after_first}
use Rattle.ip_prefix.specs.declared.Addr.{Addr}
use Rattle.ip_prefix.specs.declared.Addr.TheVariants.{V4, V6}
use Rattle.ip_prefix.specs.Prefix.{PlainPrefix}
use Rattle.networks.specs.declared.network.NetworkFault.{NetworkFault}
use Rattle.networks.specs.declared.network.NetworkFault.TheVariants as network
use Rattle.networks.specs.Network.{network_of}
use Rattle.networks.specs.declared.network_text.NetworkTextFault.{NetworkTextFault}
use Rattle.networks.specs.declared.network_text.NetworkTextFault.TheVariants.{Form, Address, Length, HostBits}
use Rattle.networks.specs.Decimal.{decimal_of}
use Rattle.networks.specs.Dotted.{v4_number}
use Rattle.networks.specs.V6.{is_colon, v6_number}

-- an address; with a colon it is of version 6
abbrev pub text_address : List ℕ → Option Addr
text_address text =
    if list_any is_colon text then option_map V6 (v6_number text) else option_map V4 (v4_number text)

-- `/`, which stands before a length
abbrev pub is_slash : ℕ → Bool
is_slash b = b == 47

-- a length in bits: 1 to 3 decimal digits
abbrev pub length_of : List ℕ → Option ℕ
length_of digits = decimal_of 3 1000 digits

-- what follows a result, which ends at the first fault
infixl 10 ◌>>=◌
abbrev pub ◌>>=◌ : {A B : Type 0} → Result A NetworkTextFault →
    (A → Result B NetworkTextFault) → Result B NetworkTextFault
(Ok x) >>= f = f x
(Err fault) >>= f = Err fault

-- a fault where the test holds
abbrev pub fault_if : Bool → NetworkTextFault → Result (Unit {0}) NetworkTextFault
fault_if test fault = if test then Err fault else Ok tt

-- the value, or else this fault
abbrev pub or_fault : {A : Type 0} → Option A → NetworkTextFault → Result A NetworkTextFault
or_fault None fault = Err fault
or_fault (Some x) fault = Ok x

-- what is wrong with a network is wrong with its text
abbrev pub text_fault : NetworkFault → NetworkTextFault
text_fault network.Length = Length
text_fault network.HostBits = HostBits

abbrev pub as_text_fault : Result PlainPrefix NetworkFault → Result PlainPrefix NetworkTextFault
as_text_fault (Ok made) = Ok made
as_text_fault (Err fault) = Err (text_fault fault)

-- the network that a text writes, split at the first slash, or the first fault
unfoldable pub network_text : List ℕ → Result PlainPrefix NetworkTextFault
network_text text = do
  _ ← fault_if (not (list_any is_slash text)) Form
  addr ← or_fault (text_address (before_first is_slash text)) Address
  length ← or_fault (length_of (after_first is_slash text)) Length
  as_text_fault (network_of addr length)
