use Rattle.std.proofs.Common.{rules}
use Rattle.std.proofs.lemmas.List.Sorted.{answers_always}
use Rattle.std.specs.Ordering.{is_lt}
use Rattle.dns_name.specs.Order.{canonical_order}
use Rattle.upstream_link.proofs.Orders.{canonical_ranks}
use Rattle.upstream_link.proofs.names.Names.sort.Goals as goal

pub returns-clause-sorted : goal.returns-clause-sorted
returns-clause-sorted c = c.sort_unstable_by.ensures.sorted (λ a b. is_lt (canonical_order a b)) canonical_ranks (answers_always _ _ _ (λ f a r g h. search rules))
