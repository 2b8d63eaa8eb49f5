use Rattle.std.proofs.Common.{◌≡◌, map}
use Rattle.octet_trie.specs.Trie.{found_entry}
use Rattle.qname_index.specs.Trie.{IsNameTrie}
use Rattle.policy_snapshot.specs.Listing.{zones_after}
use Rattle.policy_snapshot.proofs.PatternRules.{NamesTo}
use Rattle.policy_snapshot.proofs.name_listing.listed.Given as goal

abbrev pub invariant-loop-zone : goal.invariant-loop-zone
invariant-loop-zone l = record {
  count : l.number ≡ l.zone-index;
  keys : IsNameTrie (map found_entry l.entries.items);
  listed : NamesTo l.kind (zones_after l.next) l.zone-index l.entries.items;
}
