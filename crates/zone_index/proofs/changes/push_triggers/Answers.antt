use Rattle.packed_lists.specs.RowsSeen.{seen}
use Rattle.zone_index.proofs.Changed.{more_triggers}
use Rattle.zone_index.proofs.changes.push_triggers.Goals as goal

pub loop-at-preserved : goal.loop-at-preserved
loop-at-preserved c =
    more_triggers c.args.origin.now c.args.rows.now.rows c.loop-at.at (seen c.nth.result) c.args.triggers.now.items c.loop-at.triggers.items c.push_trigger.new.triggers.items
    c.nth.ensures c.loop-at.invariant c.in_ok-push_trigger.ensures
