use Rattle.policy_snapshot.proofs.PrefixRules.{none_sorted}
use Rattle.policy_snapshot.proofs.prefix_listing.rules_by_rank.Goals as goal

pub returns-in-None-clause-keys : goal.returns-in-None-clause-keys
returns-in-None-clause-keys c = none_sorted c.new.result.items c.new.ensures.items
