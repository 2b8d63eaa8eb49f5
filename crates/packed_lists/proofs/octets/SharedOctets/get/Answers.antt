use Rattle.std.proofs.Common.{◌≡◌, ◌+◌, ◌-◌, ◌*◌, ◌/◌, ◌%◌, Some, length, slice_get, slice_range, ap, sym, arith, ◌∙◌}
use Rattle.packed_lists.proofs.SharedBlocks.{length_all, range_full, range_rest}
use Rattle.packed_lists.proofs.octets.SharedOctets.get.Goals as goal

pub slice_bounds-result-end-else-block-len : goal.slice_bounds-result-end-else-block-len
slice_bounds-result-end-else-block-len c =
    let e : length c.args.self.now ≡ length c.self.inside.blocks * 4096 + length c.self.inside.tail.items = ap length (sym c.self.view_is) ∙ length_all 4096 (λ v. v.items) c.self.inside.blocks c.self.inside.tail.items c.self.invariant.0 in
    omega (arith, e, c.requires.there, c.requires.whole, c.if-block-len.false, c.len.ensures.len, c.len-else-block-len.ensures.len, c.deref-else-block-len.ensures.len)

pub returns-then-block-len : goal.returns-then-block-len
returns-then-block-len c =
    let there : slice_get c.self.inside.blocks (c.args.place / 4096) ≡ Some c.get-octets.result.now = c.get.ensures ∙ ap Some (sym c.get-octets.ensures) in
    ap (λ l. slice_range l (c.args.place % 4096) (c.args.place % 4096 + c.args.count)) c.deref.ensures.value
    ∙ sym (range_full 4096 (λ v. v.items) c.self.inside.blocks c.self.inside.tail.items (c.args.place / 4096) (c.args.place % 4096) c.args.count c.args.place c.get-octets.result.now c.self.invariant.0 c.requires.whole (omega arith) there)
    ∙ ap (λ l. slice_range l c.args.place (c.args.place + c.args.count)) c.self.view_is

pub returns-else-block-len : goal.returns-else-block-len
returns-else-block-len c =
    let at = c.args.place - c.len-else-block-len.result * 4096 in
    ap (λ l. slice_range l at (at + c.args.count)) c.deref-else-block-len.ensures.value
    ∙ sym (range_rest 4096 (λ v. v.items) c.self.inside.blocks c.self.inside.tail.items c.args.place at c.args.count c.self.invariant.0 (omega (arith, c.if-block-len.false, c.len.ensures.len, c.len-else-block-len.ensures.len)))
    ∙ ap (λ l. slice_range l c.args.place (c.args.place + c.args.count)) c.self.view_is
