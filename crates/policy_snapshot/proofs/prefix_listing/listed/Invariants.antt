use Rattle.policy_snapshot.specs.Listing.{zones_after}
use Rattle.policy_snapshot.proofs.PrefixRules.{ListsTo}
use Rattle.policy_snapshot.proofs.prefix_listing.listed.Given as goal

abbrev pub invariant-loop-zone : goal.invariant-loop-zone
invariant-loop-zone l = ListsTo l.kind (zones_after l.next) l.number l.zone-index l.entries.items
