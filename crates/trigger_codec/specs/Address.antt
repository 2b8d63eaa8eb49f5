-- Prefixes of addresses as labels of an owner (draft-vixie-dnsop-dns-rpz, section 4.1.1): the length, and the address reversed.
use Rattle.std.specs.Prelude.{ℕ, ◌+◌, ◌-◌, ◌*◌, ◌==◌, nat_lt, nat_le, Bool, ◌&&◌, if◌then◌else◌, List, [], ◌∷◌, ◌++◌, length, replicate, Option, Some, None, Result, Ok, Err, codes, map}
use Rattle.std.specs.Char.{is_ascii_digit, is_ascii_hexdigit, to_ascii_lowercase}
use Rattle.std.specs.List.{list_all, list_any, count_by}
use Rattle.std.specs.Str.{bytes_eq}
use Rattle.std.specs.Str.Parse.{digits_value}
use Rattle.dns_name.specs.Labels.{Label}
use Rattle.ip_prefix.specs.declared.Addr.{Addr}
use Rattle.ip_prefix.specs.declared.Addr.TheVariants.{V4, V6}
use Rattle.ip_prefix.specs.declared.prefix.PrefixFault.{PrefixFault}
use Rattle.ip_prefix.specs.declared.prefix.PrefixFault.TheVariants as prefix
use Rattle.ip_prefix.specs.Prefix.{PlainPrefix, prefix_of}
use Rattle.trigger_codec.specs.declared.inert.Inert.{Inert}
use Rattle.trigger_codec.specs.declared.inert.Inert.TheVariants.{Address, Length, HostBits}

-- the number that 1 to `most` digits of a base write
abbrev pub digits_read : ℕ → ℕ → (ℕ → Bool) → List ℕ → Option ℕ
digits_read most base is_digit label =
    if nat_lt 0 (length label) && nat_le (length label) most && list_all is_digit label
    then Some (digits_value base label) else None

-- a length in bits: 1 to 3 decimal digits
abbrev pub length_read : List ℕ → Option ℕ
length_read label = digits_read 3 10 is_ascii_digit label

abbrev pub at_most_255 : Option ℕ → Option ℕ
at_most_255 None = None
at_most_255 (Some value) = if nat_lt 255 value then None else Some value

-- a byte of an address of IP version 4: 1 to 3 decimal digits, at most 255
abbrev pub byte_read : List ℕ → Option ℕ
byte_read label = at_most_255 (digits_read 3 10 is_ascii_digit label)

-- a word of 16 bits of an address of IP version 6: 1 to 4 hexadecimal digits
abbrev pub word_read : List ℕ → Option ℕ
word_read label = digits_read 4 16 is_ascii_hexdigit label

-- the label `zz` in either case, which stands for words that are zero
abbrev pub is_zz : List ℕ → Bool
is_zz label = bytes_eq (map to_ascii_lowercase label) (codes "zz")

-- one list before the other, where both are there
abbrev pub both : Option (List ℕ) → Option (List ℕ) → Option (List ℕ)
both (Some xs) (Some ys) = Some (xs ++ ys)
both (Some xs) None = None
both None ys = None

abbrev pub single : Option ℕ → Option (List ℕ)
single None = None
single (Some n) = Some (n ∷ [])

-- the bytes of labels
abbrev pub bytes_read : List Label → Option (List ℕ)
bytes_read [] = Some []
bytes_read (label ∷ labels) = both (single (byte_read label)) (bytes_read labels)

-- the words of labels, where `zz` stands for so many
abbrev pub words_read : ℕ → List Label → Option (List ℕ)
words_read missing [] = Some []
words_read missing (label ∷ labels) =
    both (if is_zz label then Some (replicate missing 0) else single (word_read label))
    (words_read missing labels)

-- the number whose digits in this base stand with the lowest first, as they do in a reversed address
abbrev pub from_lowest : ℕ → List ℕ → ℕ
from_lowest base [] = 0
from_lowest base (digit ∷ digits) = digit + base * from_lowest base digits

abbrev pub v4_of : Option (List ℕ) → Option Addr
v4_of None = None
v4_of (Some bytes) = Some (V4 (from_lowest 256 bytes))

abbrev pub v6_of : Option (List ℕ) → Option Addr
v6_of None = None
v6_of (Some words) = Some (V6 (from_lowest 65536 words))

-- An address reversed: four bytes, eight words, or up to seven words and one `zz` for the zero words that are missing.
unfoldable pub address_read : List Label → Option Addr
address_read labels =
    if list_any is_zz labels
    then (if count_by is_zz labels == 1 && nat_le (length labels) 8
    then v6_of (words_read (9 - length labels) labels) else None)
    else (if length labels == 4 then v4_of (bytes_read labels)
    else (if length labels == 8 then v6_of (words_read 0 labels)
    else None))

-- what is wrong with an address and a length makes the owner inert
abbrev pub as_inert : Result PlainPrefix PrefixFault → Result PlainPrefix Inert
as_inert (Ok made) = Ok made
as_inert (Err prefix.Length) = Err Length
as_inert (Err prefix.HostBits) = Err HostBits

abbrev pub prefix_made : Option ℕ → Option Addr → Result PlainPrefix Inert
prefix_made (Some len) (Some addr) = as_inert (prefix_of addr len)
prefix_made (Some len) None = Err Address
prefix_made None addr = Err Address

-- the prefix of labels: the length and the address behind it
unfoldable pub prefix_read : List Label → Result PlainPrefix Inert
prefix_read [] = Err Address
prefix_read (first ∷ labels) = prefix_made (length_read first) (address_read labels)
