use Rattle.std.proofs.Common.{◌≡◌, ◌+◌, ◌*◌, length, map, ap, sym, arith, ◌∙◌}
use Rattle.packed_lists.proofs.SharedBlocks.{as_many, length_all}
use Rattle.packed_lists.proofs.table.SharedTable.len.Goals as goal

-- src/lib.rt:61:9
pub returns-clause-len : goal.returns-clause-len
returns-clause-len g c =
    let e : length c.args.self.now ≡ length (map (λ b. b.value) c.self.inside.full.items) * 64 + length c.self.inside.tail.items = ap length (sym c.self.view_is) ∙ length_all 64 (λ v. v.items) (map (λ b. b.value) c.self.inside.full.items) c.self.inside.tail.items c.self.invariant.0 in
    omega (arith, e, as_many (λ b. b.value) c.self.inside.full.items)

-- src/lib.rt:61:9
pub returns-clause-few : goal.returns-clause-few
returns-clause-few g c =
    let e : length c.args.self.now ≡ length (map (λ b. b.value) c.self.inside.full.items) * 64 + length c.self.inside.tail.items = ap length (sym c.self.view_is) ∙ length_all 64 (λ v. v.items) (map (λ b. b.value) c.self.inside.full.items) c.self.inside.tail.items c.self.invariant.0 in
    omega (arith, e, as_many (λ b. b.value) c.self.inside.full.items, c.self.invariant.1, c.self.invariant.2)
