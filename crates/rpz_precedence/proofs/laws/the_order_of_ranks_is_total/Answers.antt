use Rattle.rpz_precedence.specs.Rank.{rank_order}
use Rattle.rpz_precedence.proofs.Hits.{transitive, not_itself, not_before}
use Rattle.rpz_precedence.proofs.Orders.{rank_total, equal_if}
use Rattle.rpz_precedence.proofs.Ties.{same_rank}
use Rattle.rpz_precedence.proofs.laws.the_order_of_ranks_is_total.Goals as goal

pub returns-clause-total : goal.returns-clause-total
returns-clause-total c = λ a b is_a is_b h k. same_rank c.names_of_equal_octets_are_equal.ensures a b is_a is_b (equal_if (rank_order a b) (rank_order b a) (rank_total.antisymm a b) h k)

pub returns-clause-transitive : goal.returns-clause-transitive
returns-clause-transitive c = transitive

pub returns-clause-not_itself : goal.returns-clause-not_itself
returns-clause-not_itself c = not_itself

pub returns-clause-not_before : goal.returns-clause-not_before
returns-clause-not_before c = not_before
