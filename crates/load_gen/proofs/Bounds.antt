-- There are few queries, so that no count reaches the modulus.
use Rattle.std.proofs.Common.{◌≡◌, ℕ, ◌%◌, ◌<◌, ◌≤◌, ◌^◌, Bool, List, length, map, ap, ◌∙◌, arith}
use Rattle.std.specs.Prelude.{count_by}
use Rattle.std.proofs.Math.Nat.{mod-eq_of_lt}
use Rattle.std.proofs.lemmas.List.{length-map}
use Rattle.std.proofs.lemmas.List.Sums.{count_by-le-length}
use Rattle.policy_snapshot.specs.Policy.{PlainPolicy, zone_at}
use Rattle.reply_build.specs.declared.turn.Turn.{Turn}
use Rattle.load_gen.specs.declared.load.LoadQuery.{LoadQuery}
use Rattle.load_gen.specs.declared.load.TheConstants.{MOST_QUERIES}
use Rattle.load_gen.specs.declared.summary.Summary.{Summary}
use Rattle.load_gen.specs.declared.tally.Tally.{Tally}
use Rattle.load_gen.specs.Summed.{is_nodata, is_nxdomain, is_other, summary_under, turn_for, zone_rows}
use Rattle.load_gen.specs.Tallied.{tally_of}

count_is : (test : Turn → Bool) (turns : List Turn) → length turns ≤ MOST_QUERIES → count_by test turns % 2 ^ 64 ≡ count_by test turns
count_is test turns few =
    let less : count_by test turns < 2 ^ 64 = omega (arith, count_by-le-length test turns) in
    mod-eq_of_lt less

pub sums : (policy : PlainPolicy) (queries : List LoadQuery) (rows : ℕ) (tally : Tally) → length queries ≤ MOST_QUERIES
    → rows ≡ zone_rows (zone_at policy.zones 1) → tally ≡ tally_of (map (turn_for policy) queries)
    → (let s : Summary = record { rows = rows; nxdomain = tally.nxdomain; nodata = tally.nodata; other = tally.other; mark = tally.mark } in s ≡ summary_under policy queries)
sums policy queries rows tally few there is =
    let turns = map (turn_for policy) queries in
    let count : length turns ≤ MOST_QUERIES = omega (arith, length-map queries (turn_for policy)) in
    λ i. record {
      rows = there i;
      nxdomain = (ap (λ (t : Tally). t.nxdomain) is ∙ count_is is_nxdomain turns count) i;
      nodata = (ap (λ (t : Tally). t.nodata) is ∙ count_is is_nodata turns count) i;
      other = (ap (λ (t : Tally). t.other) is ∙ count_is is_other turns count) i;
      mark = (is i).mark;
    }
