use Rattle.std.proofs.Common.{◌≤◌, ◌∙◌, ap, length, arith}
use Rattle.load_gen.specs.declared.load.TheConstants.{MOST_QUERIES}
use Rattle.load_gen.specs.Summed.{load_policy, summary_under}
use Rattle.policy_snapshot.specs.Stands.{policy_in}
use Rattle.load_gen.proofs.Bounds.{sums}
use Rattle.load_gen.proofs.running.answer_all.Goals as goal

pub returns : goal.returns
returns g c =
    let policy = c.in_ok-policy.ensures ∙ ap load_policy c.rows.ensures.rows in
    let queries = c.queries.ensures.queries in
    let few : length c.queries.result.now ≤ MOST_QUERIES = omega (arith, ap length queries, c.queries.ensures.few) in
    sums (policy_in c.in_ok-policy.policy) c.queries.result.now c.zone_rows.result c.in_ok-tally.tally few c.zone_rows.ensures c.in_ok-tally.ensures
    ∙ (λ i. summary_under (policy i) (queries i))
