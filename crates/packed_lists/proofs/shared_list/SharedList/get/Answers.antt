use Rattle.std.proofs.Common.{◌≡◌, ◌+◌, ◌-◌, ◌*◌, ◌/◌, ◌%◌, ◌<◌, Some, length, slice_get, ap, sym, arith, ◌∙◌}
use Rattle.packed_lists.proofs.SharedBlocks.{length_all, got, get_full, get_rest, block_is_full}
use Rattle.packed_lists.proofs.shared_list.SharedList.get.Goals as goal

pub index-requires-else-block-len : goal.index-requires-else-block-len
index-requires-else-block-len g c =
    let e : length c.args.self.now ≡ length c.self.inside.blocks * 1024 + length c.self.inside.tail.items = ap length (sym c.self.view_is) ∙ length_all 1024 (λ v. v.items) c.self.inside.blocks c.self.inside.tail.items c.self.invariant.0 in
    omega (arith, e, c.requires, c.if-block-len.false, c.len.ensures.len, c.len-else-block-len.ensures.len)

pub returns-then-block-len : goal.returns-then-block-len
returns-then-block-len g c =
    let there : slice_get c.self.inside.blocks (c.args.place / 1024) ≡ Some c.get-items.result.now = c.get.ensures ∙ ap Some (sym c.get-items.ensures) in
    let full : length c.get-items.result.now.items ≡ 1024 = block_is_full 1024 (λ v. v.items) c.self.inside.blocks (c.args.place / 1024) c.get-items.result.now c.self.invariant.0 there in
    let few : c.args.place % 1024 < 1024 = omega arith in
    let within : c.args.place % 1024 < length c.get-items.result.now.items = omega (arith, full) in
    ap (λ xs. slice_get xs c.args.place) (sym c.self.view_is)
    ∙ get_full 1024 (λ v. v.items) c.self.inside.blocks c.self.inside.tail.items (c.args.place / 1024) (c.args.place % 1024) c.args.place c.get-items.result.now c.self.invariant.0 few (omega arith) there
    ∙ got _ _ _ within c.index.ensures

pub returns-else-block-len : goal.returns-else-block-len
returns-else-block-len g c =
    let e : length c.args.self.now ≡ length c.self.inside.blocks * 1024 + length c.self.inside.tail.items = ap length (sym c.self.view_is) ∙ length_all 1024 (λ v. v.items) c.self.inside.blocks c.self.inside.tail.items c.self.invariant.0 in
    let within : c.args.place - c.len-else-block-len.result * 1024 < length c.self.inside.tail.items = omega (arith, e, c.requires, c.if-block-len.false, c.len.ensures.len, c.len-else-block-len.ensures.len) in
    ap (λ xs. slice_get xs c.args.place) (sym c.self.view_is)
    ∙ get_rest 1024 (λ v. v.items) c.self.inside.blocks c.self.inside.tail.items c.args.place (c.args.place - c.len-else-block-len.result * 1024) c.self.invariant.0 (omega (arith, c.if-block-len.false, c.len.ensures.len, c.len-else-block-len.ensures.len))
    ∙ got _ _ _ within c.index-else-block-len.ensures
