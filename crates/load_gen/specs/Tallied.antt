-- What some of the replies come to, so that neighbouring parts can be put together. All numbers are modulo 2^64.
use Rattle.std.specs.Prelude.{ℕ, ◌+◌, ◌*◌, ◌%◌, ◌^◌, Bool, if◌then◌else◌, List, [], count_by, flat_map, fold, Result, Ok, Err}
use Rattle.std.specs.declared.alloc.AllocError.{AllocError}
use Rattle.reply_build.specs.declared.said.Said.TheVariants as said
use Rattle.reply_build.specs.declared.turn.Turn.{Turn}
use Rattle.reply_build.specs.declared.turn.Turn.TheVariants.{Ask, Said}
use Rattle.load_gen.specs.declared.tally.Tally.{Tally}
use Rattle.load_gen.specs.Summed.{has_nodata, has_other, has_rcode, is_nodata, is_nxdomain, is_other, mark_of, next_mark, reply_octets}

-- the power of 31 by one byte more
abbrev pub next_power : ℕ → ℕ → ℕ
next_power power byte = 31 * power % 2 ^ 64

-- the power of 31 by the number of bytes of the replies
abbrev pub power_of : List Turn → ℕ
power_of turns = fold next_power 1 (flat_map reply_octets turns)

-- what these replies come to
abbrev pub tally_of : List Turn → Tally
tally_of turns = record {
  nxdomain = count_by is_nxdomain turns % 2 ^ 64;
  nodata = count_by is_nodata turns % 2 ^ 64;
  other = count_by is_other turns % 2 ^ 64;
  mark = mark_of turns;
  power = power_of turns;
}

-- one more, where the test holds
abbrev pub one_if : Bool → ℕ → ℕ
one_if test count = if test then (count + 1) % 2 ^ 64 else count

-- with one reply more, of these bytes
abbrev pub with_reply : Tally → List ℕ → Tally
with_reply tally octets = record {
  nxdomain = one_if (has_rcode 3 octets) tally.nxdomain;
  nodata = one_if (has_nodata octets) tally.nodata;
  other = one_if (has_other octets) tally.other;
  mark = fold next_mark tally.mark octets;
  power = fold next_power tally.power octets;
}

-- with one turn more
abbrev pub with_turn : Tally → Turn → Tally
with_turn tally (Ask question) = tally
with_turn tally (Said said.Silent) = tally
with_turn tally (Said (said.Reply octets)) = with_reply tally octets

-- of two neighbouring parts
abbrev pub joined : Tally → Tally → Tally
joined first second = record {
  nxdomain = (first.nxdomain + second.nxdomain) % 2 ^ 64;
  nodata = (first.nodata + second.nodata) % 2 ^ 64;
  other = (first.other + second.other) % 2 ^ 64;
  mark = (first.mark * second.power % 2 ^ 64 + second.mark) % 2 ^ 64;
  power = first.power * second.power % 2 ^ 64;
}

-- what a part comes to that was done
abbrev pub tally_in : Result Tally AllocError → Tally
tally_in (Ok tally) = tally
tally_in (Err e) = tally_of []

-- what parts come to that stand one after another
abbrev pub joined_parts : List (Result Tally AllocError) → Tally
joined_parts parts = fold (λ all part. joined all (tally_in part)) (tally_of []) parts
