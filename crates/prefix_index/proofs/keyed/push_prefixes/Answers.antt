use Rattle.std.proofs.Common.{◌≤◌}
use Rattle.prefix_index.proofs.Keying.{all_at, prefix_more}
use Rattle.prefix_index.proofs.keyed.push_prefixes.Goals as goal

pub prefix-requires : goal.prefix-requires
prefix-requires g c = all_at (λ e. 1 ≤ g.K.Key.keys.len e.0) c.args.keyed.now c.loop-entry.entry-index c.entry-item.result c.loop-entry-test.true c.entry-item.is c.requires

pub loop-entry-preserved : goal.loop-entry-preserved
loop-entry-preserved g c =
    prefix_more g.K.Key.to c.args.entries.now.items c.loop-entry.entries.items _ c.args.keyed.now c.loop-entry.entry-index c.entry-item.result c.prefix.result
    c.loop-entry-test.true c.entry-item.is c.loop-entry.invariant c.in_ok-push.ensures.items c.prefix.ensures
