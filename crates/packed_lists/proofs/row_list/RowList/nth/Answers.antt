use Rattle.std.proofs.Common.{◌≡◌, List, ◌+◌, ◌-◌, ◌<◌, ◌++◌, ◌∷◌, [], length, get_or, slice_get, ap, sym, ◌∙◌, subst, arith, length-append}
use Rattle.packed_lists.specs.Stored.{PlainStored}
use Rattle.packed_lists.specs.Blocks.{PlainRowList, IsIndexed, joined}
use Rattle.packed_lists.proofs.Joined.{as_many_starts, row_found, some_start}
use Rattle.packed_lists.proofs.row_list.RowList.nth.Goals as goal

pub block_at-block-requires : goal.block_at-block-requires
block_at-block-requires c =
    let bs : List (List PlainStored) = c.self.inside.blocks ++ c.self.inside.tail ∷ [] in
    let i : IsIndexed c.self.inside.firsts c.self.inside.starts bs c.self.inside.next = c.self.invariant in
    omega (arith, c.count_at_most-after.ensures.within, ap length i.places, as_many_starts 0 bs, length-append c.self.inside.blocks (c.self.inside.tail ∷ []))

pub overflow_sub-at : goal.overflow_sub-at
overflow_sub-at c =
    let bs : List (List PlainStored) = c.self.inside.blocks ++ c.self.inside.tail ∷ [] in
    let i : IsIndexed c.self.inside.firsts c.self.inside.starts bs c.self.inside.next = c.self.invariant in
    let above = c.count_at_most-after.ensures.above in
    let none : c.count_at_most-after.result ≡ 0 → ⊥ = λ e. some_start c.self.inside.firsts c.self.inside.starts bs c.self.inside.next c.args.at i (subst (λ m. m < length c.self.inside.starts → c.args.at < get_or c.self.inside.starts m 0) e above) in
    let some : c.count_at_most-after.result - 1 + 1 ≡ c.count_at_most-after.result = omega (arith, none) in
    let here : c.get.result ≡ get_or c.self.inside.starts (c.count_at_most-after.result - 1) 0 = c.get.ensures in
    omega (arith, here, c.count_at_most-after.ensures.below (c.count_at_most-after.result - 1) some)

pub get-requires-2 : goal.get-requires-2
get-requires-2 c =
    let bs : List (List PlainStored) = c.self.inside.blocks ++ c.self.inside.tail ∷ [] in
    let i : IsIndexed c.self.inside.firsts c.self.inside.starts bs c.self.inside.next = c.self.invariant in
    let above = c.count_at_most-after.ensures.above in
    let none : c.count_at_most-after.result ≡ 0 → ⊥ = λ e. some_start c.self.inside.firsts c.self.inside.starts bs c.self.inside.next c.args.at i (subst (λ m. m < length c.self.inside.starts → c.args.at < get_or c.self.inside.starts m 0) e above) in
    let some : c.count_at_most-after.result - 1 + 1 ≡ c.count_at_most-after.result = omega (arith, none) in
    let here : c.get.result ≡ get_or c.self.inside.starts (c.count_at_most-after.result - 1) 0 = c.get.ensures in
    let within : c.args.at < length (joined bs) = omega (arith, c.requires, ap (λ (v : PlainRowList). length v.rows) c.self.view_is) in
    let row : (slice_get (joined bs) c.args.at ≡ slice_get c.block_at-block.result.now (c.args.at - get_or c.self.inside.starts (c.count_at_most-after.result - 1) 0)) × (c.args.at - get_or c.self.inside.starts (c.count_at_most-after.result - 1) 0 < length c.block_at-block.result.now) =
    row_found c.self.inside.firsts c.self.inside.starts bs c.self.inside.next c.args.at c.count_at_most-after.result (c.count_at_most-after.result - 1) c.block_at-block.result.now i c.block_at-block.ensures some within c.count_at_most-after.ensures.below above in
    omega (arith, here, row.1)

pub returns : goal.returns
returns c =
    let bs : List (List PlainStored) = c.self.inside.blocks ++ c.self.inside.tail ∷ [] in
    let i : IsIndexed c.self.inside.firsts c.self.inside.starts bs c.self.inside.next = c.self.invariant in
    let above = c.count_at_most-after.ensures.above in
    let none : c.count_at_most-after.result ≡ 0 → ⊥ = λ e. some_start c.self.inside.firsts c.self.inside.starts bs c.self.inside.next c.args.at i (subst (λ m. m < length c.self.inside.starts → c.args.at < get_or c.self.inside.starts m 0) e above) in
    let some : c.count_at_most-after.result - 1 + 1 ≡ c.count_at_most-after.result = omega (arith, none) in
    let here : c.get.result ≡ get_or c.self.inside.starts (c.count_at_most-after.result - 1) 0 = c.get.ensures in
    let within : c.args.at < length (joined bs) = omega (arith, c.requires, ap (λ (v : PlainRowList). length v.rows) c.self.view_is) in
    let row : (slice_get (joined bs) c.args.at ≡ slice_get c.block_at-block.result.now (c.args.at - get_or c.self.inside.starts (c.count_at_most-after.result - 1) 0)) × (c.args.at - get_or c.self.inside.starts (c.count_at_most-after.result - 1) 0 < length c.block_at-block.result.now) =
    row_found c.self.inside.firsts c.self.inside.starts bs c.self.inside.next c.args.at c.count_at_most-after.result (c.count_at_most-after.result - 1) c.block_at-block.result.now i c.block_at-block.ensures some within c.count_at_most-after.ensures.below above in
    ap (λ (v : PlainRowList). slice_get v.rows c.args.at) (sym c.self.view_is) ∙ row.0 ∙ ap (λ j. slice_get c.block_at-block.result.now (c.args.at - j)) (sym here) ∙ c.get-2.ensures
