use Rattle.std.proofs.Common.{◌≡◌, List, ◌+◌, ◌-◌, ◌++◌, ◌∷◌, [], ap, sym, ◌∙◌, arith, length-append}
use Rattle.packed_lists.specs.Stored.{PlainStored, row_of_number}
use Rattle.packed_lists.specs.Blocks.{PlainRowList, IsIndexed}
use Rattle.packed_lists.proofs.Joined.{as_many_keys, place_found, block_is_rising, found_in_block}
use Rattle.packed_lists.proofs.row_list.RowList.get.Goals as goal

pub block_at-requires : goal.block_at-requires
block_at-requires c =
    let bs : List (List PlainStored) = c.self.inside.blocks ++ c.self.inside.tail ∷ [] in
    let i : IsIndexed c.self.inside.firsts c.self.inside.starts bs c.self.inside.next = c.self.invariant in
    omega (arith, c.count_at_most-after.ensures.within, as_many_keys c.self.inside.next c.self.inside.firsts bs i.keyed, length-append c.self.inside.blocks (c.self.inside.tail ∷ []))

pub find-requires : goal.find-requires
find-requires c =
    let bs : List (List PlainStored) = c.self.inside.blocks ++ c.self.inside.tail ∷ [] in
    let i : IsIndexed c.self.inside.firsts c.self.inside.starts bs c.self.inside.next = c.self.invariant in
    block_is_rising c.self.inside.firsts c.self.inside.starts bs c.self.inside.next (c.count_at_most-after.result - 1) c.block_at.result.now i c.block_at.ensures

pub returns : goal.returns
returns c =
    let bs : List (List PlainStored) = c.self.inside.blocks ++ c.self.inside.tail ∷ [] in
    let i : IsIndexed c.self.inside.firsts c.self.inside.starts bs c.self.inside.next = c.self.invariant in
    let some : c.count_at_most-after.result - 1 + 1 ≡ c.count_at_most-after.result = omega (arith, c.if-after-eq0.false) in
    let p = place_found c.self.inside.firsts c.self.inside.starts bs c.self.inside.next c.args.number c.count_at_most-after.result (c.count_at_most-after.result - 1) c.block_at.result.now
    i c.block_at.ensures some c.count_at_most-after.ensures.below c.count_at_most-after.ensures.above in
    c.find.ensures ∙ sym (found_in_block c.args.number c.self.inside.next (c.count_at_most-after.result - 1) c.self.inside.firsts bs c.block_at.result.now i.keyed p) ∙ ap (λ (v : PlainRowList). row_of_number c.args.number v.rows) c.self.view_is
