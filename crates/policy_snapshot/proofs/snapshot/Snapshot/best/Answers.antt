use Rattle.std.proofs.Common.{◌∙◌, ◌||◌, None, subst, sym}
use Rattle.std.specs.Prelude.{All}
use Rattle.trigger_codec.specs.declared.trigger.Kind.TheVariants.{NsDname, NsIp}
use Rattle.upstream_link.specs.Known.{AreInOrder}
use Rattle.upstream_link.specs.Servers.{servers}
use Rattle.policy_snapshot.specs.Lookup.{zones_hit, zones_need}
use Rattle.policy_snapshot.specs.Stands.{policy_in}
use Rattle.policy_snapshot.proofs.AllZones.{Laws}
use Rattle.policy_snapshot.proofs.BestHits.{RankLaws}
use Rattle.policy_snapshot.proofs.RuleRanks.{ZoneLaws}
use Rattle.policy_snapshot.proofs.Unneeded.{found, lists_in_order}
use Rattle.policy_snapshot.proofs.snapshot.Snapshot.best.Goals as goal

pub first_hit-requires-clause-servers : goal.first_hit-requires-clause-servers
first_hit-requires-clause-servers c =
    let policy = policy_in c.args.self.now in
    subst (All AreInOrder) (sym c.as_slice.ensures)
    (lists_in_order (zones_need policy.overrides NsDname 1 None policy.zones || zones_need policy.overrides NsIp 1 None policy.zones) c.in_ok-servers.servers (servers c.args.facts.now c.args.name.now) c.in_ok-servers.ensures)

pub returns : goal.returns
returns c =
    let policy = policy_in c.args.self.now in
    let query = c.args.query.now in
    let zone_laws : ZoneLaws = record { by_trigger = c.an_index_has_the_rules_of_its_zone.ensures.by_trigger; named = c.an_index_has_the_rules_of_its_zone.ensures.named } in
    let ranks : RankLaws = record { transitive = c.the_order_of_ranks_is_total.ensures.transitive; not_itself = c.the_order_of_ranks_is_total.ensures.not_itself; not_before = c.the_order_of_ranks_is_total.ensures.not_before } in
    let laws : Laws = record {
      ordered = c.a_rule_does_what_its_rows_do.ensures.ordered;
      listed = c.an_index_has_the_rules_of_its_zone.ensures.listed;
      ranks = ranks;
      one_server = c.an_index_is_in_order_of_precedence.ensures.ns_dname;
    } in
    c.first_hit.ensures
    ∙ (λ i. zones_hit policy.overrides 1 (record { position = c.args.position; client = query.client; name = c.args.name.now; records = c.records.ensures i; servers = c.as_slice.ensures i; addresses = c.as_slice-2.ensures.value i }) policy.zones)
    ∙ found laws zone_laws query c.args.facts.now c.args.position c.args.name.now policy c.zones-zones.ensures.rows c.the_best_hit_is_the_one_that_nothing_precedes.ensures.only
    c.in_ok-servers.servers c.in_ok-addresses.addresses.items c.in_ok-servers.ensures c.in_ok-addresses.ensures.some c.in_ok-addresses.ensures.none
