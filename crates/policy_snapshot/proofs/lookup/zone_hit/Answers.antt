use Rattle.std.proofs.Common.{◌∙◌}
use Rattle.policy_snapshot.specs.Lookup.{index_hit}
use Rattle.policy_snapshot.specs.Sight.{sight_seen}
use Rattle.policy_snapshot.proofs.IndexHits.{hit_in_zone}
use Rattle.policy_snapshot.proofs.lookup.zone_hit.Goals as goal

pub returns-in-Some : goal.returns-in-Some
returns-in-Some c =
    let sight = sight_seen c.args.sight.now in
    c.rules_hit.ensures
    ∙ (λ i. index_hit c.args.number (c.soa_record.ensures i) sight (c.rules.ensures i))
    ∙ hit_in_zone c.args.number sight c.args.zone.now.origin c.args.zone.now.content c.in-Some.index c.in-Some.ensures.index
