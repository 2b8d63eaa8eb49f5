use Rattle.std.proofs.Common.{rules}
use Rattle.std.specs.Arc.{arc_value}
use Rattle.policy_snapshot.proofs.ZoneLoops.{value_set}
use Rattle.policy_snapshot.proofs.snapshot.with_zone_at.Goals as goal

pub returns : goal.returns
returns c = value_set arc_value c.args.zones.now c.in_ok-all.all.items c.args.place c.in_ok-all-2.field-0 c.args.zone c.in_ok-all.ensures (search rules)
