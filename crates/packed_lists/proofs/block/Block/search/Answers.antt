use Rattle.std.proofs.Common.{◌≡◌, ◌+◌, ◌-◌, ◌<◌, ◌≤◌, ◌^◌, length, map, get_or, ap, sym, ◌∙◌, arith}
use Rattle.packed_lists.specs.RowsSeen.{seen}
use Rattle.packed_lists.proofs.Packing.{numbers_same, as_many}
use Rattle.packed_lists.proofs.Rising.{numbers, found_at, none_at, none_between, number_got}
use Rattle.packed_lists.proofs.block.Block.search.Goals as goal

-- src/block.rt:76:5
pub returns-then-row-number : goal.returns-then-row-number
returns-then-row-number c = sym (found_at c.args.number 0 (2 ^ 32) _ c.args.self.now (seen c.get-row.result) c.requires c.get-row.ensures c.if-row-number.true)

-- src/block.rt:76:5
pub returns-else-row-number : goal.returns-else-row-number
returns-else-row-number c =
    let same : numbers c.args.self.now ≡ map (λ e. e.number) c.deref.result.now = ap numbers (sym c.self.view_is) ∙ numbers_same c.self.inside.octets.items c.self.inside.entries.items ∙ ap (map (λ e. e.number)) (sym c.deref.ensures.value) in
    let long : length c.args.self.now ≡ length c.deref.result.now = ap length (sym c.self.view_is) ∙ as_many c.self.inside.octets.items c.self.inside.entries.items ∙ ap length (sym c.deref.ensures.value) in
    let last : c.count_at_most-after.result - 1 + 1 ≡ c.count_at_most-after.result = omega (arith, c.if-after-gt0.true) in
    let le : (seen c.get-row.result).number ≤ c.args.number = omega (
      arith,
      c.count_at_most-after.ensures.below (c.count_at_most-after.result - 1) last,
      ap (λ l. get_or l (c.count_at_most-after.result - 1) 0) same,
      number_got (c.count_at_most-after.result - 1) c.args.self.now (seen c.get-row.result) c.get-row.ensures,
    ) in
    sym (none_at c.args.number 0 (2 ^ 32) c.count_at_most-after.result c.args.self.now (map (λ e. e.number) c.deref.result.now) (seen c.get-row.result) (c.count_at_most-after.result - 1)
    c.requires (omega (arith, long, c.count_at_most-after.ensures.within)) same c.get-row.ensures last (λ e. c.if-row-number.false e) le
    (λ lt. c.count_at_most-after.ensures.above (omega (arith, long))))

-- src/block.rt:76:5
pub returns-else-after-gt0 : goal.returns-else-after-gt0
returns-else-after-gt0 c =
    let same : numbers c.args.self.now ≡ map (λ e. e.number) c.deref.result.now = ap numbers (sym c.self.view_is) ∙ numbers_same c.self.inside.octets.items c.self.inside.entries.items ∙ ap (map (λ e. e.number)) (sym c.deref.ensures.value) in
    let long : length c.args.self.now ≡ length c.deref.result.now = ap length (sym c.self.view_is) ∙ as_many c.self.inside.octets.items c.self.inside.entries.items ∙ ap length (sym c.deref.ensures.value) in
    sym (none_between c.args.number 0 (2 ^ 32) c.count_at_most-after.result c.args.self.now c.requires (omega (arith, long, c.count_at_most-after.ensures.within))
    (λ k e. absurd (omega (arith, c.if-after-gt0.false)))
    (λ lt. let h : c.args.number < get_or (map (λ e. e.number) c.deref.result.now) c.count_at_most-after.result 0 = c.count_at_most-after.ensures.above (omega (arith, long)) in
    omega (arith, h, ap (λ l. get_or l c.count_at_most-after.result 0) same)))
