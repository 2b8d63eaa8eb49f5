use Rattle.std.proofs.Common.{◌+◌, ◌-◌, ◌*◌, length}
use Rattle.octet_trie.specs.Copies.{stands_all}
use Rattle.octet_trie.specs.Listed.{entries_from}
use Rattle.octet_trie.specs.Made.{AreKidsMade}
use Rattle.octet_trie.proofs.Kinship.{AllBelow}
use Rattle.octet_trie.proofs.build.+build.Given as goal

abbrev pub decreases-build : goal.decreases-build
decreases-build g l = 3 * (300 - length l.top.now) + 2

abbrev pub decreases-build_kids : goal.decreases-build_kids
decreases-build_kids g l = 3 * (300 - length l.name.now) + 1

abbrev pub decreases-build_kid : goal.decreases-build_kid
decreases-build_kid g l = 3 * (300 - length l.name.now)

abbrev pub decreases-build_kids-loop-next : goal.decreases-build_kids-loop-next
decreases-build_kids-loop-next g l = length l.entries - l.next

abbrev pub invariant-build_kids-loop-next : goal.invariant-build_kids-loop-next
invariant-build_kids-loop-next g l = record {
  made : AreKidsMade g.M.Mark.present l.initial.store l.store l.name (entries_from l.number l.entries) (entries_from l.next l.entries) l.kids.items;
  below : AllBelow l.low (stands_all g.M.Mark.present l.store l.kids.items);
}
