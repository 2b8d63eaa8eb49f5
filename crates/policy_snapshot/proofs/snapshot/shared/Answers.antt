use Rattle.std.proofs.Common.{rules}
use Rattle.std.specs.Arc.{arc_value}
use Rattle.policy_snapshot.proofs.ZoneLoops.{one_more, all_made}
use Rattle.policy_snapshot.proofs.snapshot.shared.Goals as goal

pub loop-zone-preserved : goal.loop-zone-preserved
loop-zone-preserved c =
    one_more arc_value arc_value c.args.zones.now c.loop-zone.all.items c.push.new.self.items c.loop-zone.zone-index c.zone-item.result c.in_ok-try_clone.field-0 c.loop-zone-test.true c.zone-item.is (search rules) c.loop-zone.invariant c.in_ok-push.ensures.items

pub returns : goal.returns
returns c = all_made arc_value arc_value c.args.zones.now c.loop-zone.all.items c.loop-zone.zone-index c.loop-zone-test.false c.loop-zone.invariant
