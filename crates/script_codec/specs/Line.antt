-- What a line of a script says, or why it is refused.
use Rattle.std.specs.Prelude.{ℕ, ◌==◌, ◌&&◌, Bool, true, not, if◌then◌else◌, nat_lt, nat_le, List, [], ◌∷◌, length, Option, Some, None, Result, Ok, Err, codes}
use Rattle.std.specs.List.{list_all}
use Rattle.std.specs.Str.{bytes_eq}
use Rattle.script_codec.specs.declared.line.Line.{Line}
use Rattle.script_loop.specs.declared.limits.TheConstants.{LINE_BYTES, LINES}
use Rattle.script_codec.specs.declared.line.Line.TheVariants as line
use Rattle.script_codec.specs.declared.line_fault.LineFault.{LineFault}
use Rattle.script_codec.specs.declared.line_fault.LineFault.TheVariants as why
use Rattle.dns_name.specs.Reading.{◌>>=◌}
use Rattle.script_codec.specs.Outcome.{refuse_if}
use Rattle.script_codec.specs.Fields.{fields_of, first_field, no_more_fields, one_field, two_fields, four_fields}
use Rattle.script_codec.specs.Field.{name_field, number_field, zone_field, worker_field, transport_field, address_field, network_field, bytes_field, message_field}
use Rattle.script_codec.specs.Overriding.{override_field, override_text}
use Rattle.script_codec.specs.State.{PlainState, zone_count, is_pending, opens, takes_primary, takes_network}

-- `zone NAME`, `zone NAME WORD` or `zone NAME cname TARGET`
unfoldable pub zone_line : PlainState → List (List ℕ) → Result Line LineFault
zone_line state fields = do
  (text, others) ← first_field fields
  behind ← override_text others
  origin ← name_field text
  over ← override_field behind
  _ ← opens state origin
  Ok (line.Zone origin over)

-- `primary Z ADDR`
unfoldable pub primary_line : PlainState → List (List ℕ) → Result Line LineFault
primary_line state fields = do
  (digits, source) ← two_fields fields
  zone ← zone_field (zone_count state) digits
  address ← address_field source
  _ ← takes_primary state zone
  Ok (line.Primary zone address)

-- `allow PREFIX`
unfoldable pub allow_line : PlainState → List (List ℕ) → Result Line LineFault
allow_line state fields = do
  text ← one_field fields
  network ← network_field text
  _ ← takes_network state network
  Ok (line.Allow network)

-- `xfer Z HEX`
unfoldable pub transfer_line : PlainState → List (List ℕ) → Result Line LineFault
transfer_line state fields = do
  (digits, text) ← two_fields fields
  zone ← zone_field (zone_count state) digits
  stream ← bytes_field text
  Ok (line.Transfer zone stream)

-- `full Z`
unfoldable pub full_line : PlainState → List (List ℕ) → Result Line LineFault
full_line state fields = do
  digits ← one_field fields
  zone ← zone_field (zone_count state) digits
  Ok (line.Full zone)

-- `query W udp|tcp ADDR HEX`
unfoldable pub query_line : PlainState → List (List ℕ) → Result Line LineFault
query_line state fields = do
  (digits, carrier, source, text) ← four_fields fields
  worker ← worker_field digits
  transport ← transport_field carrier
  client ← address_field source
  message ← message_field text
  _ ← refuse_if (is_pending state worker) why.Busy
  Ok (line.Query worker transport client message)

-- `give W HEX`
unfoldable pub give_line : PlainState → List (List ℕ) → Result Line LineFault
give_line state fields = do
  (digits, text) ← two_fields fields
  worker ← worker_field digits
  message ← message_field text
  _ ← refuse_if (not (is_pending state worker)) why.Idle
  Ok (line.Give worker message)

-- `fail W`
unfoldable pub fail_line : PlainState → List (List ℕ) → Result Line LineFault
fail_line state fields = do
  digits ← one_field fields
  worker ← worker_field digits
  _ ← refuse_if (not (is_pending state worker)) why.Idle
  Ok (line.Fail worker)

-- `notify ADDR HEX`
unfoldable pub notify_line : List (List ℕ) → Result Line LineFault
notify_line fields = do
  (source, text) ← two_fields fields
  client ← address_field source
  message ← bytes_field text
  Ok (line.Notify client message)

-- `due`
unfoldable pub due_line : List (List ℕ) → Result Line LineFault
due_line fields = do
  _ ← no_more_fields fields
  Ok line.Due

-- `clock SECONDS`
unfoldable pub clock_line : List (List ℕ) → Result Line LineFault
clock_line fields = do
  digits ← one_field fields
  seconds ← number_field digits
  Ok (line.Clock seconds)

-- a line of this first word and these fields
unfoldable pub kind_line : PlainState → List ℕ → List (List ℕ) → Result Line LineFault
kind_line state word fields =
    if bytes_eq word (codes "zone") then zone_line state fields
    else (if bytes_eq word (codes "primary") then primary_line state fields
    else (if bytes_eq word (codes "allow") then allow_line state fields
    else (if bytes_eq word (codes "xfer") then transfer_line state fields
    else (if bytes_eq word (codes "full") then full_line state fields
    else (if bytes_eq word (codes "query") then query_line state fields
    else (if bytes_eq word (codes "give") then give_line state fields
    else (if bytes_eq word (codes "fail") then fail_line state fields
    else (if bytes_eq word (codes "notify") then notify_line fields
    else (if bytes_eq word (codes "due") then due_line fields
    else (if bytes_eq word (codes "clock") then clock_line fields
    else Err why.Word))))))))))

-- a line that begins with its first word
abbrev pub worded_line : PlainState → List (List ℕ) → Result Line LineFault
worded_line state [] = Err why.Word
worded_line state (word ∷ fields) = kind_line state word fields

-- an empty line, or a comment
abbrev pub is_skipped : List ℕ → Bool
is_skipped [] = true
is_skipped (b ∷ rest) = b == 35

-- a byte of printable ASCII
abbrev pub is_text_byte : ℕ → Bool
is_text_byte b = nat_le 32 b && nat_le b 126

-- what a line says, whatever its number and its length; nothing where it is skipped
unfoldable pub unnumbered_line : List ℕ → PlainState → Result (Option Line) LineFault
unnumbered_line text state = do
  _ ← refuse_if (not (list_all is_text_byte text)) why.Char
  if is_skipped text then Ok None
      else (worded_line state (fields_of text) >>= λ says. Ok (Some says))

-- what the line of this number says
unfoldable pub line_of : ℕ → List ℕ → PlainState → Result (Option Line) LineFault
line_of number text state = do
  _ ← refuse_if (nat_lt LINES number) why.Lines
  _ ← refuse_if (nat_lt LINE_BYTES (length text)) why.TooLong
  unnumbered_line text state
