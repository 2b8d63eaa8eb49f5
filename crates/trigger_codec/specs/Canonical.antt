-- The one canonical spelling of a trigger as labels: decimal and hexadecimal digits without leading zeros, in lower case, and `zz`
-- for the longest run of two or more zero words, the first in the address where two are equal.
use Rattle.std.specs.Prelude.{ℕ, zero, suc, ◌+◌, ◌/◌, ◌%◌, ◌==◌, nat_lt, false, if◌then◌else◌, List, [], ◌∷◌, ◌++◌, map, reverse, take, drop, codes, decimal, Result}
use Rattle.std.specs.Fmt.{digits}
use Rattle.dns_name.specs.Labels.{Name, Label}
use Rattle.dns_name.specs.Alike.{PlainPattern}
use Rattle.dns_name.specs.Join.{join_outcome}
use Rattle.dns_name.specs.declared.fault.TooLong.{TooLong}
use Rattle.ip_prefix.specs.declared.Addr.{Addr}
use Rattle.ip_prefix.specs.declared.Addr.TheVariants.{V4, V6}
use Rattle.ip_prefix.specs.Prefix.{PlainPrefix}
use Rattle.trigger_codec.specs.declared.trigger.Trigger.{Trigger}
use Rattle.trigger_codec.specs.declared.trigger.Trigger.TheVariants.{ClientIp, Qname, ResponseIp, NsDname, NsIp}

-- so many digits of a number in a base, the lowest first
abbrev pub lowest_digits : ℕ → ℕ → ℕ → List ℕ
lowest_digits zero base number = []
lowest_digits (suc count) base number = number % base ∷ lowest_digits count base (number / base)

-- the hexadecimal digits of a number, in lower case
abbrev pub hexadecimal : ℕ → List ℕ
hexadecimal number = digits 16 false number

-- the number of zeros that a list begins with
abbrev pub zeros_first : List ℕ → ℕ
zeros_first [] = 0
zeros_first (word ∷ words) = if word == 0 then zeros_first words + 1 else 0

-- a run of zero words: its place and how long it is
pub record Run : Type 0 where
  pub place : ℕ
  pub long : ℕ

-- the longer of two runs, the first where they are equal
abbrev pub longer_run : Run → Run → Run
longer_run first other = if nat_lt first.long other.long then other else first

-- the longest run of zero words, the first where two are equal; the words stand from this place on
abbrev pub longest_run : ℕ → List ℕ → Run
longest_run place [] = record { place = place; long = 0 }
longest_run place (word ∷ words) =
    longer_run (record { place = place; long = zeros_first (word ∷ words) })
    (longest_run (place + 1) words)

-- the words of an address, highest first, as labels, with `zz` for a run of two or more
abbrev pub with_run : List ℕ → Run → List Label
with_run words run =
    if nat_lt run.long 2 then map hexadecimal words
    else map hexadecimal (take run.place words)
    ++ codes "zz" ∷ map hexadecimal (drop (run.place + run.long) words)

abbrev pub word_labels : List ℕ → List Label
word_labels words = with_run words (longest_run 0 words)

-- an address reversed, as labels
unfoldable pub address_labels : Addr → List Label
address_labels (V4 number) = map decimal (lowest_digits 4 256 number)
address_labels (V6 number) = reverse (word_labels (reverse (lowest_digits 8 65536 number)))

-- a prefix as labels
abbrev pub prefix_labels : PlainPrefix → List Label
prefix_labels prefix = decimal prefix.length ∷ address_labels prefix.addr

-- names as labels
abbrev pub pattern_labels : PlainPattern → List Label
pattern_labels pattern = if pattern.wild then codes "*" ∷ pattern.base else pattern.base

-- a trigger as labels
unfoldable pub trigger_labels : Trigger → List Label
trigger_labels (ClientIp prefix) = prefix_labels prefix ++ codes "rpz-client-ip" ∷ []
trigger_labels (Qname pattern) = pattern_labels pattern
trigger_labels (ResponseIp prefix) = prefix_labels prefix ++ codes "rpz-ip" ∷ []
trigger_labels (NsDname pattern) = pattern_labels pattern ++ codes "rpz-nsdname" ∷ []
trigger_labels (NsIp prefix) = prefix_labels prefix ++ codes "rpz-nsip" ∷ []

-- the canonical owner of a trigger in the zone of this origin
abbrev pub canonical_owner : Trigger → Name → Result Name TooLong
canonical_owner t origin = join_outcome (trigger_labels t) origin
