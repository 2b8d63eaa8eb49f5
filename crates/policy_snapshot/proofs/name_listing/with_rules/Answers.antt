use Rattle.std.proofs.lemmas.Result.{IfOk-weaker}
use Rattle.policy_snapshot.specs.Listing.{has_pattern}
use Rattle.policy_snapshot.proofs.PatternRules.{merged_by_key}
use Rattle.policy_snapshot.proofs.name_listing.with_rules.Goals as goal

pub returns-clause-rules : goal.returns-clause-rules
returns-clause-rules c =
    IfOk-weaker c.merged.result _ _
    (λ all zones. merged_by_key c.args.number (has_pattern c.args.kind c.args.zone.now) c.args.entries.now c.deref.result.now c.in_ok-rules.rules.items all.items c.deref.ensures.value c.in_ok-rules.ensures.rules zones)
    c.merged.ensures.zones
