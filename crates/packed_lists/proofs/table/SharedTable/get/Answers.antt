use Rattle.std.proofs.Common.{◌≡◌, ◌+◌, ◌-◌, ◌*◌, ◌/◌, ◌%◌, ◌<◌, Some, length, map, slice_get, ap, sym, arith, ◌∙◌}
use Rattle.std.proofs.lemmas.Option.{slice_get-map}
use Rattle.std.specs.Option.{option_map}
use Rattle.packed_lists.proofs.SharedBlocks.{as_many, length_all, got, get_full, get_rest, block_is_full}
use Rattle.packed_lists.proofs.table.SharedTable.get.Goals as goal

-- src/lib.rt:70:14
pub index-requires-then-group-len : goal.index-requires-then-group-len
index-requires-then-group-len g c =
    let vs = map (λ b. b.value) c.self.inside.full.items in
    let le : c.args.place / 64 < length c.self.inside.full.items = omega (arith, c.if-group-len.true, c.len.ensures) in
    let here : slice_get c.self.inside.full.items (c.args.place / 64) ≡ Some c.index.result.now = got _ _ _ le c.index.ensures in
    let there : slice_get vs (c.args.place / 64) ≡ Some c.deref-items.result.now = slice_get-map (λ b. b.value) c.self.inside.full.items (c.args.place / 64) ∙ ap (option_map (λ b. b.value)) here ∙ ap Some (sym c.deref-items.ensures) in
    omega (arith, block_is_full 64 (λ v. v.items) vs (c.args.place / 64) c.deref-items.result.now c.self.invariant.0 there)

-- src/lib.rt:72:14
pub index-requires-else-group-len : goal.index-requires-else-group-len
index-requires-else-group-len g c =
    let e : length c.args.self.now ≡ length (map (λ b. b.value) c.self.inside.full.items) * 64 + length c.self.inside.tail.items = ap length (sym c.self.view_is) ∙ length_all 64 (λ v. v.items) (map (λ b. b.value) c.self.inside.full.items) c.self.inside.tail.items c.self.invariant.0 in
    omega (arith, e, as_many (λ b. b.value) c.self.inside.full.items)

-- src/lib.rt:63:5
pub returns-then-group-len : goal.returns-then-group-len
returns-then-group-len g c =
    let vs = map (λ b. b.value) c.self.inside.full.items in
    let le : c.args.place / 64 < length c.self.inside.full.items = omega (arith, c.if-group-len.true, c.len.ensures) in
    let here : slice_get c.self.inside.full.items (c.args.place / 64) ≡ Some c.index.result.now = got _ _ _ le c.index.ensures in
    let there : slice_get vs (c.args.place / 64) ≡ Some c.deref-items.result.now = slice_get-map (λ b. b.value) c.self.inside.full.items (c.args.place / 64) ∙ ap (option_map (λ b. b.value)) here ∙ ap Some (sym c.deref-items.ensures) in
    let full : length c.deref-items.result.now.items ≡ 64 = block_is_full 64 (λ v. v.items) vs (c.args.place / 64) c.deref-items.result.now c.self.invariant.0 there in
    let few : c.args.place % 64 < 64 = omega arith in
    let within : c.args.place % 64 < length c.deref-items.result.now.items = omega (arith, full) in
    ap (λ xs. slice_get xs c.args.place) (sym c.self.view_is)
    ∙ get_full 64 (λ v. v.items) vs c.self.inside.tail.items (c.args.place / 64) (c.args.place % 64) c.args.place c.deref-items.result.now c.self.invariant.0 few (omega arith) there
    ∙ got _ _ _ within c.index-then-group-len.ensures

-- src/lib.rt:63:5
pub returns-else-group-len : goal.returns-else-group-len
returns-else-group-len g c =
    let vs = map (λ b. b.value) c.self.inside.full.items in
    let e : length c.args.self.now ≡ length vs * 64 + length c.self.inside.tail.items = ap length (sym c.self.view_is) ∙ length_all 64 (λ v. v.items) vs c.self.inside.tail.items c.self.invariant.0 in
    let within : c.args.place - c.len-else-group-len.result * 64 < length c.self.inside.tail.items = omega (arith, e, as_many (λ b. b.value) c.self.inside.full.items) in
    ap (λ xs. slice_get xs c.args.place) (sym c.self.view_is)
    ∙ get_rest 64 (λ v. v.items) vs c.self.inside.tail.items c.args.place (c.args.place - c.len-else-group-len.result * 64) c.self.invariant.0 (omega (arith, as_many (λ b. b.value) c.self.inside.full.items))
    ∙ got _ _ _ within c.index-else-group-len.ensures
