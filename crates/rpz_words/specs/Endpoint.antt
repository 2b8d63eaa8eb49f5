-- Endpoints as words: `A.B.C.D:PORT`, or `[V6]:PORT`, an address of IP version 6 in brackets (RFC 3986, section 3.2.2).
use Rattle.std.specs.Prelude.{◌≡◌, ◌≤◌, ℕ, ◌==◌, Bool, false, if◌then◌else◌, List, [], ◌∷◌, ◌++◌, Result, Ok, Err, codes, decimal}
use Rattle.std.specs.List.{before_first, after_first}
use Rattle.std.specs.Option.{ok_or}
use Rattle.ip_prefix.specs.Bits.{IsAddr}
use Rattle.ip_prefix.specs.declared.Addr.{Addr}
use Rattle.ip_prefix.specs.declared.Addr.TheVariants.{V4, V6}
use Rattle.networks.specs.Dotted.{v4_number}
use Rattle.networks.specs.Mapped.{is_mapped_number}
use Rattle.networks.specs.V6.{is_colon, v6_number}
use Rattle.networks.specs.Written.{addr_text}
use Rattle.edge_io.specs.declared.endpoint.Endpoint.{Endpoint}
use Rattle.rpz_words.specs.declared.endpoint_text.TheConstants.{PORT_LIMIT}
use Rattle.rpz_words.specs.declared.usage_cause.EndpointFault.{EndpointFault}
use Rattle.rpz_words.specs.declared.usage_cause.EndpointFault.TheVariants.{Form, Address, Mapped, Port}
use Rattle.dns_name.specs.Reading.{◌>>=◌}
use Rattle.rpz_words.specs.Outcome.{cause_if}
use Rattle.rpz_words.specs.Values.{port_of}

-- `[`, which stands before an address of version 6
abbrev pub is_bracket : ℕ → Bool
is_bracket b = b == 91

-- `]`, which stands behind it
abbrev pub is_end_bracket : ℕ → Bool
is_end_bracket b = b == 93

-- `A.B.C.D:PORT`, split at the first colon
unfoldable pub v4_endpoint : List ℕ → Result Endpoint EndpointFault
v4_endpoint text = do
  addr ← ok_or (v4_number (before_first is_colon text)) Address
  port ← ok_or (port_of (after_first is_colon text)) Port
  Ok (record { addr = V4 addr; port = port })

-- what stands behind the colon that a text begins with
abbrev pub behind_colon : List ℕ → Result (List ℕ) EndpointFault
behind_colon [] = Err Form
behind_colon (b ∷ rest) = if is_colon b then Ok rest else Err Form

-- `V6]:PORT`, split at the first bracket; a mapped address is refused, since it is one of version 4
unfoldable pub v6_endpoint : List ℕ → Result Endpoint EndpointFault
v6_endpoint text = do
  addr ← ok_or (v6_number (before_first is_end_bracket text)) Address
  _ ← cause_if (is_mapped_number addr) Mapped
  digits ← behind_colon (after_first is_end_bracket text)
  port ← ok_or (port_of digits) Port
  Ok (record { addr = V6 addr; port = port })

-- the address is a mapped one of version 4
abbrev pub is_mapped_addr : Addr → Bool
is_mapped_addr (V4 number) = false
is_mapped_addr (V6 number) = is_mapped_number number

-- an endpoint of either version, or the first fault
abbrev pub endpoint_of : List ℕ → Result Endpoint EndpointFault
endpoint_of [] = v4_endpoint []
endpoint_of (b ∷ rest) = if is_bracket b then v6_endpoint rest else v4_endpoint (b ∷ rest)

-- what stands before the port
abbrev pub host_octets : Addr → List ℕ
host_octets (V4 number) = addr_text (V4 number)
host_octets (V6 number) = codes "[" ++ (addr_text (V6 number) ++ codes "]")

-- An endpoint as it is written, an address of version 6 in the form of RFC 5952.
abbrev pub endpoint_octets : Endpoint → List ℕ
endpoint_octets endpoint = host_octets endpoint.addr ++ (codes ":" ++ decimal endpoint.port)

-- an endpoint that words may ask for: with a port, and no mapped address
pub record IsWritable (endpoint : Endpoint) : Type 0 where
  pub is_addr : IsAddr endpoint.addr
  pub some_port : 1 ≤ endpoint.port
  pub small_port : endpoint.port ≤ PORT_LIMIT
  pub is_no_other : is_mapped_addr endpoint.addr ≡ false
