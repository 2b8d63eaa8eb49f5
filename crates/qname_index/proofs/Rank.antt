-- Where a pattern stands among others, by what a look-up knows of it: two small numbers, and then bytes.
use Rattle.std.specs.Prelude.{ℕ, Bool, List, length}
use Rattle.std.specs.Cmp.{IsTotalOrder, then_total, on_total, back_total, bool_cmp_total, nat_cmp_total}
use Rattle.std.specs.Cmp.Lexicographic.{slice_cmp, nat_list_cmp_total}
use Rattle.std.specs.Ordering.{nat_cmp, bool_cmp, ordering_then}
use Rattle.std.specs.declared.cmp.Ordering.{Ordering}
use Rattle.dns_name.specs.Alike.{PlainPattern}
use Rattle.dns_name.specs.Labels.{name_octets}

-- whether the pattern is wild, how many labels its base has, and the base as it is written
pub record Rank : Type 0 where
  pub wild : Bool
  pub labels : ℕ
  pub octets : List ℕ

abbrev pub rank_of : PlainPattern → Rank
rank_of pattern =
    record { wild = pattern.wild; labels = length pattern.base; octets = name_octets pattern.base }

-- `pattern_order`, of ranks
abbrev pub rank_order : Rank → Rank → Ordering
rank_order a b =
    ordering_then (bool_cmp a.wild b.wild)
    (ordering_then (nat_cmp b.labels a.labels) (slice_cmp nat_cmp a.octets b.octets))

pub rank_total : IsTotalOrder rank_order
rank_total =
    then_total (on_total (λ r. r.wild) bool_cmp_total) (then_total
    (back_total (on_total (λ r. r.labels) nat_cmp_total))
    (on_total (λ r. r.octets) nat_list_cmp_total))
