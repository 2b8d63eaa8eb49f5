-- Networks of clients (RFC 4632, section 3.1; RFC 4291, section 2.3).
use Rattle.std.specs.Prelude.{ℕ, ◌≡◌, ◌≤◌, nat_lt, Result, Ok, Err, if◌then◌else◌}
use Rattle.ip_prefix.specs.declared.Addr.{Addr}
use Rattle.ip_prefix.specs.Bits.{IsAddr, IsZeroBehind}
use Rattle.ip_prefix.specs.Prefix.{PlainPrefix, has_host_bits, width}
use Rattle.networks.specs.declared.network.NetworkFault.{NetworkFault}
use Rattle.networks.specs.declared.network.NetworkFault.TheVariants.{Length, HostBits}

-- The network of an address and a length in bits, or what is wrong with them: the length first. The network of length 0 is that of
-- all addresses of a version.
abbrev pub network_of : Addr → ℕ → Result PlainPrefix NetworkFault
network_of addr length =
    if nat_lt (width addr) length then Err Length
    else (if has_host_bits addr length then Err HostBits
    else Ok (record { addr = addr; length = length }))

-- an address and a length that make a network
pub record IsNetwork (network : PlainPrefix) : Type 0 where
  pub made : network_of network.addr network.length ≡ Ok network

-- the same of an address with no more bits than its version has
pub record IsNetworkOfAddresses (network : PlainPrefix) : Type 0 where
  pub is_network : IsNetwork network
  pub is_addr : IsAddr network.addr

-- a network is this address and this length, which is in its bounds, and no bit after the length is 1
pub record IsNetworkOf (addr : Addr) (length : ℕ) (network : PlainPrefix) : Type 0 where
  pub within : length ≤ width addr
  pub zeros : IsZeroBehind length addr
  pub is_pair : network ≡ record { addr = addr; length = length }
