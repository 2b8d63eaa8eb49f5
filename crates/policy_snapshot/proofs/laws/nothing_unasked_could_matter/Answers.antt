use Rattle.policy_snapshot.proofs.SameNext.{AllLaws, best_by_laws, none_by_laws, next_by_laws}
use Rattle.policy_snapshot.proofs.laws.nothing_unasked_could_matter.Goals as goal

all_laws : goal.After-what_is_known_stays_known → AllLaws
all_laws c = record {
  zone_laws = record { by_trigger = c.an_index_has_the_rules_of_its_zone.ensures.by_trigger; named = c.an_index_has_the_rules_of_its_zone.ensures.named };
  is = c.the_best_hit_is_the_one_that_nothing_precedes.ensures.is;
  only = c.the_best_hit_is_the_one_that_nothing_precedes.ensures.only;
  stays = λ facts more extends. record {
    known = λ question fact. c.what_is_known_stays_known.ensures.known facts more question fact extends;
    records = λ name qtype. c.what_is_known_stays_known.ensures.records facts more name qtype extends;
    server_names = λ name. c.what_is_known_stays_known.ensures.servers facts more name extends;
  };
}

pub returns-clause-best : goal.returns-clause-best
returns-clause-best c = λ policy query facts more position name. best_by_laws (all_laws c) policy query facts more position name

pub returns-clause-pending : goal.returns-clause-pending
returns-clause-pending c = λ policy query facts more position name. none_by_laws (all_laws c) policy query facts more position name

pub returns-clause-next : goal.returns-clause-next
returns-clause-next c = next_by_laws (all_laws c)
