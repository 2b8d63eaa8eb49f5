use Rattle.octet_trie.specs.Trie.{found_entry}
use Rattle.qname_index.specs.Ranked.{IsPatternKey}
use Rattle.qname_index.proofs.Listed.{one_more, one_of_all}
use Rattle.qname_index.proofs.listing.push_entries.Goals as goal

pub pattern_of-requires : goal.pattern_of-requires
pattern_of-requires g c = one_of_all found_entry (λ e. IsPatternKey e.0) c.args.found.now c.loop-entry.entry-index c.entry-item.result c.loop-entry-test.true c.entry-item.is c.requires

pub loop-entry-preserved : goal.loop-entry-preserved
loop-entry-preserved g c =
    one_more found_entry c.args.entries.now.items c.loop-entry.entries.items _ c.args.found.now c.loop-entry.entry-index c.entry-item.result c.in_ok-pattern_of.field-0
    c.loop-entry-test.true c.entry-item.is c.loop-entry.invariant c.in_ok-push.ensures.items c.in_ok-pattern_of.ensures
