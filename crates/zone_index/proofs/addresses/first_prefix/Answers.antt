use Rattle.std.proofs.Common.{[], ◌∷◌, ◌++◌, ◌∙◌}
use Rattle.zone_index.proofs.FirstRule.{all_done, goes_on, none_at_first, one_more}
use Rattle.zone_index.specs.Placed.{rules_in}
use Rattle.zone_index.proofs.Gathered.{rules_in_order}
use Rattle.zone_index.proofs.addresses.first_prefix.Goals as goal

pub loop-rr-init : goal.loop-rr-init
loop-rr-init c = (tt, tt, [], c.into_iter-rr-iterator.ensures.into_iter_gives ∙ c.iter-rr-items.ensures, none_at_first c.args.owner.now (rules_in c.args.rows.now).response_ip)

pub loop-rr-preserved : goal.loop-rr-preserved
loop-rr-preserved c =
    let done = c.loop-rr.invariant.2 in (
      tt,
      tt,
      done ++ c.in-Some.rr ∷ [],
      goes_on done c.loop-rr.rr-iterator c.args.records.now c.in-Some.rr c.next.new.self c.loop-rr.invariant.3 c.in-Some.ensures.steps,
      one_more c.args.owner.now done c.in-Some.rr (rules_in c.args.rows.now).response_ip c.loop-rr.first c.about_record.result c.earlier-first.result (rules_in_order c.args.rows.now.origin c.args.rows.now.rows).response_ip c.loop-rr.invariant.4 c.about_record.ensures c.earlier-first.ensures,
    )

pub returns-clause-prefix : goal.returns-clause-prefix
returns-clause-prefix c =
    all_done c.args.owner.now c.loop-rr.invariant.2 c.loop-rr.rr-iterator c.args.records.now (rules_in c.args.rows.now).response_ip c.loop-rr.first c.loop-rr.invariant.3 c.in-None.ensures.steps.0 c.loop-rr.invariant.4

pub returns-clause-sorted : goal.returns-clause-sorted
returns-clause-sorted c = (rules_in_order c.args.rows.now.origin c.args.rows.now.rows).response_ip
