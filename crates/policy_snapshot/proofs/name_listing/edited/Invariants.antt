use Rattle.std.proofs.Common.{◌≡◌, true, take}
use Rattle.policy_snapshot.proofs.PatternRules.{AreEdited}
use Rattle.policy_snapshot.proofs.name_listing.edited.Given as goal

abbrev pub invariant-loop-trigger : goal.invariant-loop-trigger
invariant-loop-trigger l = record {
  having : l.summary.having ≡ l.fn.having;
  listed : l.summary.is_listed ≡ true;
  edited : AreEdited l.kind l.next l.before l.summary (take l.trigger-index l.triggers);
}
