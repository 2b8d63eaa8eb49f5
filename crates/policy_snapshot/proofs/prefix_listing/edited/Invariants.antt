use Rattle.std.proofs.Common.{take}
use Rattle.policy_snapshot.proofs.PrefixRules.{EditsTo}
use Rattle.policy_snapshot.proofs.prefix_listing.edited.Given as goal

abbrev pub invariant-loop-trigger : goal.invariant-loop-trigger
invariant-loop-trigger l = EditsTo l.kind l.next l.fn.having l.before l.summary (take l.trigger-index l.triggers)
