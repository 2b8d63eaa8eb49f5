use Rattle.std.proofs.Common.{Option, subst, sym}
use Rattle.rpz_precedence.specs.Best.{IsBest, PlainHit}
use Rattle.policy_snapshot.specs.Hits.{hits}
use Rattle.policy_snapshot.specs.Rules.{rules}
use Rattle.policy_snapshot.proofs.RuleRanks.{ZoneLaws, are_hits}
use Rattle.policy_snapshot.proofs.laws.no_two_hits_are_at_one_rank.Goals as goal

zone_laws : goal.After-the_best_hit_is_the_one_that_nothing_precedes → ZoneLaws
zone_laws c = record { by_trigger = c.an_index_has_the_rules_of_its_zone.ensures.by_trigger; named = c.an_index_has_the_rules_of_its_zone.ensures.named }

pub returns-clause-apart : goal.returns-clause-apart
returns-clause-apart c = λ policy query facts position name rows. are_hits (zone_laws c) query facts position name policy rows

pub returns-clause-decides : goal.returns-clause-decides
returns-clause-decides c = λ policy query facts position name found rows.
    let all = hits (rules policy) query facts position name in (
      λ is. subst (λ (hit : Option PlainHit). IsBest all hit) (sym is) (c.the_best_hit_is_the_one_that_nothing_precedes.ensures.is all),
      λ best. c.the_best_hit_is_the_one_that_nothing_precedes.ensures.only all found (are_hits (zone_laws c) query facts position name policy rows) best,
    )
