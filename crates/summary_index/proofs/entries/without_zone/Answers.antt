use Rattle.std.proofs.Common.{map}
use Rattle.octet_trie.specs.Trie.{found_entry}
use Rattle.summary_index.specs.Entries.{entry_without}
use Rattle.summary_index.proofs.MergeLoop.{all_left}
use Rattle.summary_index.proofs.entries.without_zone.Goals as goal

pub returns : goal.returns
returns c = all_left (entry_without c.args.number) found_entry c.args.entries.now c.loop-entry.entry-index (map found_entry c.loop-entry.left.items) c.loop-entry-test.false c.loop-entry.invariant
