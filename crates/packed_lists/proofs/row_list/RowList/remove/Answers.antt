use Rattle.std.proofs.Common.{◌≡◌, List, ◌+◌, ◌-◌, ◌++◌, ◌∷◌, [], length, ap, ◌∙◌, arith, length-append}
use Rattle.packed_lists.specs.Stored.{PlainStored, without_number}
use Rattle.packed_lists.specs.Blocks.{PlainRowList, IsIndexed, joined}
use Rattle.packed_lists.proofs.Joined.{as_many_keys, as_many_starts, place_found, Takes, taken_indexed, taken_rows}
use Rattle.packed_lists.proofs.row_list.RowList.remove.Goals as goal

pub block_at-old-requires : goal.block_at-old-requires
block_at-old-requires c =
    let bs : List (List PlainStored) = c.self.inside.blocks ++ c.self.inside.tail ∷ [] in
    let i : IsIndexed c.self.inside.firsts c.self.inside.starts bs c.self.inside.next = c.self.invariant in
    omega (arith, c.count_at_most-after.ensures.within, as_many_keys c.self.inside.next c.self.inside.firsts bs i.keyed, length-append c.self.inside.blocks (c.self.inside.tail ∷ []))

pub lowered-requires : goal.lowered-requires
lowered-requires c =
    let bs : List (List PlainStored) = c.self.inside.blocks ++ c.self.inside.tail ∷ [] in
    let i : IsIndexed c.self.inside.firsts c.self.inside.starts bs c.self.inside.next = c.self.invariant in
    omega (arith, c.count_at_most-after.ensures.within, as_many_keys c.self.inside.next c.self.inside.firsts bs i.keyed, ap length i.places, as_many_starts 0 bs)

pub put_block-requires : goal.put_block-requires
put_block-requires c =
    let bs : List (List PlainStored) = c.self.inside.blocks ++ c.self.inside.tail ∷ [] in
    let i : IsIndexed c.self.inside.firsts c.self.inside.starts bs c.self.inside.next = c.self.invariant in
    omega (arith, c.count_at_most-after.ensures.within, as_many_keys c.self.inside.next c.self.inside.firsts bs i.keyed, length-append c.self.inside.blocks (c.self.inside.tail ∷ []))

pub invariant_of-self-2 : goal.invariant_of-self-2
invariant_of-self-2 c =
    let bs : List (List PlainStored) = c.self.inside.blocks ++ c.self.inside.tail ∷ [] in
    let i : IsIndexed c.self.inside.firsts c.self.inside.starts bs c.self.inside.next = c.self.invariant in
    let some : c.count_at_most-after.result - 1 + 1 ≡ c.count_at_most-after.result = omega (arith, c.if-after-eq0.false) in
    let news : List (List PlainStored) = c.put_block.new.blocks ++ c.put_block.new.tail ∷ [] in
    let takes : Takes c.self.inside.firsts c.self.inside.starts c.in_ok-starts.starts bs news c.self.inside.next c.args.number (c.count_at_most-after.result - 1) c.count_at_most-after.result c.saturating_sub-gone.result c.block_at-old.result.now c.in_ok-block.block = record {
      index = i;
      place = place_found c.self.inside.firsts c.self.inside.starts bs c.self.inside.next c.args.number c.count_at_most-after.result (c.count_at_most-after.result - 1) c.block_at-old.result.now
          i c.block_at-old.ensures some c.count_at_most-after.ensures.below c.count_at_most-after.ensures.above;
      new_is = c.in_ok-block.ensures;
      after_is = omega (arith, c.if-after-eq0.false);
      less = omega (arith, c.saturating_sub-gone.ensures, c.len.ensures, c.len-2.ensures);
      lower_is = c.in_ok-starts.ensures;
      news_is = c.in_ok-put_block.ensures.ok;
    } in
    taken_indexed c.self.inside.firsts c.self.inside.starts c.in_ok-starts.starts bs news c.self.inside.next c.args.number (c.count_at_most-after.result - 1) c.count_at_most-after.result c.saturating_sub-gone.result c.block_at-old.result.now c.in_ok-block.block takes

pub returns-clause-ok : goal.returns-clause-ok
returns-clause-ok c =
    let bs : List (List PlainStored) = c.self.inside.blocks ++ c.self.inside.tail ∷ [] in
    let i : IsIndexed c.self.inside.firsts c.self.inside.starts bs c.self.inside.next = c.self.invariant in
    let some : c.count_at_most-after.result - 1 + 1 ≡ c.count_at_most-after.result = omega (arith, c.if-after-eq0.false) in
    let news : List (List PlainStored) = c.put_block.new.blocks ++ c.put_block.new.tail ∷ [] in
    let takes : Takes c.self.inside.firsts c.self.inside.starts c.in_ok-starts.starts bs news c.self.inside.next c.args.number (c.count_at_most-after.result - 1) c.count_at_most-after.result c.saturating_sub-gone.result c.block_at-old.result.now c.in_ok-block.block = record {
      index = i;
      place = place_found c.self.inside.firsts c.self.inside.starts bs c.self.inside.next c.args.number c.count_at_most-after.result (c.count_at_most-after.result - 1) c.block_at-old.result.now
          i c.block_at-old.ensures some c.count_at_most-after.ensures.below c.count_at_most-after.ensures.above;
      new_is = c.in_ok-block.ensures;
      after_is = omega (arith, c.if-after-eq0.false);
      less = omega (arith, c.saturating_sub-gone.ensures, c.len.ensures, c.len-2.ensures);
      lower_is = c.in_ok-starts.ensures;
      news_is = c.in_ok-put_block.ensures.ok;
    } in
    let rows : joined news ≡ without_number c.args.number c.args.self.now.rows = taken_rows c.self.inside.firsts c.self.inside.starts c.in_ok-starts.starts bs news c.self.inside.next c.args.number (c.count_at_most-after.result - 1) c.count_at_most-after.result c.saturating_sub-gone.result c.block_at-old.result.now c.in_ok-block.block takes ∙ ap (λ (v : PlainRowList). without_number c.args.number v.rows) c.self.view_is in
    λ t. record { rows = rows t; next = ap (λ (v : PlainRowList). v.next) c.self.view_is t }
