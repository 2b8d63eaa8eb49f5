use Rattle.std.proofs.Common.{map, arith}
use Rattle.octet_trie.specs.Plain.{plain}
use Rattle.octet_trie.specs.Trie.{found_entry}
use Rattle.octet_trie.proofs.Collecting.{collected_more}
use Rattle.octet_trie.proofs.collect.+collect.Goals as goal

pub loop-place-preserved : goal.loop-place-preserved
loop-place-preserved g t c =
    let p = g.M.Mark.present in
    collected_more c.args.store.now (plain p c.args.node.now) (plain p c.kid-kid.result) c.loop-place.place (map found_entry c.collect_own-2.new.out.items) (map found_entry c.loop-place.out.items) (map found_entry c.collect.new.out.items) (omega arith) c.requires c.kid-kid.ensures c.loop-place.invariant c.in_ok-collect.ensures
