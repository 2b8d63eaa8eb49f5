-- What a field says.
use Rattle.std.specs.Prelude.{ℕ, ◌==◌, if◌then◌else◌, nat_lt, nat_le, List, [], length, Option, Some, None, option_map, Result, Ok, Err, codes}
use Rattle.std.specs.Int.{w128, from_be_bytes}
use Rattle.std.specs.Str.{bytes_eq}
use Rattle.dns_name.specs.Labels.{Name}
use Rattle.hex.specs.Hex.{decode_of, decode_sized}
use Rattle.dns_name.specs.Text as name_form
use Rattle.ip_prefix.specs.declared.Addr.{Addr}
use Rattle.ip_prefix.specs.declared.Addr.TheVariants as addr
use Rattle.ip_prefix.specs.declared.Transport.{Transport}
use Rattle.ip_prefix.specs.declared.Transport.TheVariants as transport
use Rattle.ip_prefix.specs.Prefix.{PlainPrefix}
use Rattle.networks.specs.Decimal.{decimal_of}
use Rattle.networks.specs.Dotted.{v4_number}
use Rattle.networks.specs.NetworkText.{network_text}
use Rattle.script_codec.specs.declared.field.TheConstants.{MESSAGE_BYTES, NUMBER_BOUND, NUMBER_DIGITS}
use Rattle.script_codec.specs.declared.state.TheConstants.{WORKERS}
use Rattle.script_codec.specs.declared.line_fault.LineFault.{LineFault}
use Rattle.script_codec.specs.declared.line_fault.LineFault.TheVariants as why
use Rattle.dns_name.specs.Reading.{◌>>=◌}
use Rattle.script_codec.specs.Outcome.{refuse_if}

-- the value, or else this reason
abbrev pub or_refused : {A E : Type 0} → Result A E → LineFault → Result A LineFault
or_refused (Ok x) why = Ok x
or_refused (Err e) why = Err why

abbrev pub some_or_refused : {A : Type 0} → Option A → LineFault → Result A LineFault
some_or_refused (Some x) why = Ok x
some_or_refused None why = Err why

-- the name that a text gives
abbrev pub name_field : List ℕ → Result Name LineFault
name_field text = or_refused (name_form.text_name text) why.Name

-- a number: 1 to 10 decimal digits, at most 4,294,967,295
unfoldable pub number_field : List ℕ → Result ℕ LineFault
number_field digits = some_or_refused (decimal_of NUMBER_DIGITS NUMBER_BOUND digits) why.Number

-- the number of a zone, of so many that there are; zone 1 is the first
unfoldable pub zone_field : ℕ → List ℕ → Result ℕ LineFault
zone_field zones digits = do
  zone ← number_field digits
  _ ← refuse_if (zone == 0) why.NoZone
  _ ← refuse_if (nat_lt zones zone) why.NoZone
  Ok zone

-- the number of a worker; worker 0 is the first
unfoldable pub worker_field : List ℕ → Result ℕ LineFault
worker_field digits = do
  worker ← number_field digits
  _ ← refuse_if (nat_le WORKERS worker) why.NoWorker
  Ok worker

-- `udp` or `tcp`
abbrev pub transport_field : List ℕ → Result Transport LineFault
transport_field text =
    if bytes_eq text (codes "udp") then Ok transport.Udp
    else (if bytes_eq text (codes "tcp") then Ok transport.Tcp
    else Err why.Transport)

-- an address of IP version 4: four decimals joined by dots
unfoldable pub v4_field : List ℕ → Result Addr LineFault
v4_field text = some_or_refused (option_map addr.V4 (v4_number text)) why.Address

-- an address of IP version 6: 32 hexadecimal digits
unfoldable pub v6_field : List ℕ → Result Addr LineFault
v6_field text = do
  bytes ← or_refused (decode_sized text 16) why.Address
  Ok (addr.V6 (from_be_bytes w128 bytes))

-- an address; no text is one of both versions
unfoldable pub address_field : List ℕ → Result Addr LineFault
address_field text = if length text == 32 then v6_field text else v4_field text

-- a network of clients: `ADDRESS/LENGTH`
abbrev pub network_field : List ℕ → Result PlainPrefix LineFault
network_field text = or_refused (network_text text) why.Prefix

-- bytes: `-` for none, else an even number of hexadecimal digits
unfoldable pub bytes_field : List ℕ → Result (List ℕ) LineFault
bytes_field text = if bytes_eq text (codes "-") then Ok [] else or_refused (decode_of text) why.Hex

-- a message: at most 65,535 bytes (RFC 1035, section 4.2.2)
unfoldable pub message_field : List ℕ → Result (List ℕ) LineFault
message_field text = do
  bytes ← bytes_field text
  _ ← refuse_if (nat_lt MESSAGE_BYTES (length bytes)) why.Long
  Ok bytes
