use Rattle.std.proofs.Common.{subst, sym}
use Rattle.std.specs.Prelude.{All}
use Rattle.upstream_link.specs.Known.{HaveSameMembers}
use Rattle.upstream_link.proofs.Orders.{IsLower, in_order, named_lower, same_members}
use Rattle.upstream_link.proofs.known.servers_in_order.Goals as goal

pub returns-clause-order : goal.returns-clause-order
returns-clause-order c = in_order c.in_ok-names.names c.sort.new.self c.dedup.new.self c.sort.ensures.same c.dedup.ensures (subst (λ names. All IsLower names) (sym c.in_ok-names.ensures) (named_lower c.args.question.now c.args.fact.now)) c.sort.ensures.sorted

pub returns-clause-same : goal.returns-clause-same
returns-clause-same c = subst (λ names. HaveSameMembers c.dedup.new.self names) c.in_ok-names.ensures (same_members c.in_ok-names.names c.sort.new.self c.dedup.new.self c.sort.ensures.same c.dedup.ensures (subst (λ names. All IsLower names) (sym c.in_ok-names.ensures) (named_lower c.args.question.now c.args.fact.now)))
