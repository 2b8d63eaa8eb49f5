use Rattle.std.proofs.Common.{map}
use Rattle.octet_trie.specs.Trie.{found_entry}
use Rattle.summary_index.proofs.MergeLoop.{one_more}
use Rattle.summary_index.proofs.entries.push_entries.Goals as goal

pub loop-entry-preserved : goal.loop-entry-preserved
loop-entry-preserved c =
    one_more found_entry c.args.more.now c.loop-entry.entry-index c.entry-item.result (map found_entry c.args.entries.now.items) (map found_entry c.loop-entry.entries.items) (map found_entry c.push.new.entries.items)
    c.loop-entry-test.true c.entry-item.is c.loop-entry.invariant c.in_ok-push.ensures
