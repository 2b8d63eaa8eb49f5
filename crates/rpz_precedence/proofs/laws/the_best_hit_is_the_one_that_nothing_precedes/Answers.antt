use Rattle.rpz_precedence.specs.Best.{best}
use Rattle.rpz_precedence.proofs.Hits.{best_is, only}
use Rattle.rpz_precedence.proofs.laws.the_best_hit_is_the_one_that_nothing_precedes.Goals as goal

pub returns-clause-is : goal.returns-clause-is
returns-clause-is c = best_is

pub returns-clause-only : goal.returns-clause-only
returns-clause-only c = λ hits found are h. only c.the_order_of_ranks_is_total.ensures.total hits are found (best hits) h (best_is hits)
