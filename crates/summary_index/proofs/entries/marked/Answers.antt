use Rattle.std.proofs.Common.{map}
use Rattle.octet_trie.specs.Trie.{found_entry}
use Rattle.summary_index.specs.Entries.{in_trie}
use Rattle.summary_index.proofs.MergeLoop.{all_mapped}
use Rattle.summary_index.proofs.entries.marked.Goals as goal

pub returns : goal.returns
returns c = all_mapped in_trie found_entry c.args.entries.now c.loop-entry.entry-index (map found_entry c.loop-entry.marked.items) c.loop-entry-test.false c.loop-entry.invariant
