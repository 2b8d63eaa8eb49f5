use Rattle.std.proofs.Common.{take, map, IfSome, subst}
use Rattle.octet_trie.specs.Made.{IsMade}
use Rattle.octet_trie.specs.Plain.{plain}
use Rattle.octet_trie.specs.Trie.{found_entry}
use Rattle.octet_trie.proofs.Building.{made_trie, made_list}
use Rattle.octet_trie.proofs.trie.OctetTrie.of_listed.Goals as goal

pub invariant_of-result : goal.invariant_of-result
invariant_of-result g c =
    let es = c.args.entries.now in
    let made = subst (λ o. IfSome o (λ m. IsMade c.new-store.result c.build.new.store (take 0 c.index-entries-0.result.key.now) 0 (map found_entry es) (plain g.M.Mark.present m))) c.in-Some.is c.in_ok-root.ensures in
    made_trie _ _ _ _ es _ c.requires.short (c.are_in_order.ensures c.if-not-are_in_order.false) made

pub returns : goal.returns
returns g c =
    let es = c.args.entries.now in
    let made = subst (λ o. IfSome o (λ m. IsMade c.new-store.result c.build.new.store (take 0 c.index-entries-0.result.key.now) 0 (map found_entry es) (plain g.M.Mark.present m))) c.in-Some.is c.in_ok-root.ensures in
    made_list _ _ _ _ es _ (c.are_in_order.ensures c.if-not-are_in_order.false) made
