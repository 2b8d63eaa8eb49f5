use Rattle.std.proofs.Common.{◌≡◌, ◌+◌, ◌-◌, ◌*◌, ◌/◌, ◌%◌, ◌<◌, ◌++◌, Some, length, map, slice_get, ap, sym, subst, arith, ◌∙◌}
use Rattle.std.proofs.Math.ListN.{set}
use Rattle.std.proofs.lemmas.List.{map-set, length-set}
use Rattle.std.proofs.lemmas.Option.{slice_get-map}
use Rattle.std.specs.List.{flat_map, AllByRecursion}
use Rattle.std.specs.Option.{option_map}
use Rattle.packed_lists.proofs.SharedBlocks.{as_many, length_all, got, block_is_full, set_full, full_set, set_rest}
use Rattle.packed_lists.proofs.table.SharedTable.set.Goals as goal

pub share_but-requires : goal.share_but-requires
share_but-requires g c =
    let vs = map (λ b. b.value) c.self.inside.full.items in
    let le : c.args.place / 64 < length c.self.inside.full.items = omega (arith, c.if-group-len.true, c.len.ensures) in
    let here : slice_get c.self.inside.full.items (c.args.place / 64) ≡ Some c.index.result.now = got _ _ _ le c.index.ensures in
    let there : slice_get vs (c.args.place / 64) ≡ Some c.deref.result.now = slice_get-map (λ b. b.value) c.self.inside.full.items (c.args.place / 64) ∙ ap (option_map (λ b. b.value)) here ∙ ap Some (sym c.deref.ensures) in
    omega (arith, block_is_full 64 (λ v. v.items) vs (c.args.place / 64) c.deref.result.now c.self.invariant.0 there)

pub invariant_of-self : goal.invariant_of-self
invariant_of-self g c =
    let vs = map (λ b. b.value) c.self.inside.full.items in
    let le : c.args.place / 64 < length c.self.inside.full.items = omega (arith, c.if-group-len.true, c.len.ensures) in
    let here : slice_get c.self.inside.full.items (c.args.place / 64) ≡ Some c.index.result.now = got _ _ _ le c.index.ensures in
    let there : slice_get vs (c.args.place / 64) ≡ Some c.deref.result.now = slice_get-map (λ b. b.value) c.self.inside.full.items (c.args.place / 64) ∙ ap (option_map (λ b. b.value)) here ∙ ap Some (sym c.deref.ensures) in
    let full : length c.deref.result.now.items ≡ 64 = block_is_full 64 (λ v. v.items) vs (c.args.place / 64) c.deref.result.now c.self.invariant.0 there in
    let same : c.in_ok-items-2.items.value.items ≡ set c.deref.result.now.items (c.args.place % 64) c.args.item = ap (λ v. v.items) c.in_ok-items-2.ensures.ok ∙ c.in_ok-items.ensures in
    let long : length c.in_ok-items-2.items.value.items ≡ 64 = ap length same ∙ length-set c.deref.result.now.items (c.args.place % 64) c.args.item ∙ full in (
      subst (λ l. AllByRecursion (λ v. length v.items ≡ 64) l) (sym (map-set (λ b. b.value) c.self.inside.full.items (c.args.place / 64) c.in_ok-items-2.items))
          (full_set 64 (λ v. v.items) vs (c.args.place / 64) c.in_ok-items-2.items.value c.self.invariant.0 long),
      omega (arith, c.self.invariant.1, length-set c.self.inside.full.items (c.args.place / 64) c.in_ok-items-2.items),
      c.self.invariant.2,
    )

pub index_mut-requires-else-group-len : goal.index_mut-requires-else-group-len
index_mut-requires-else-group-len g c =
    let e : length c.args.self.now ≡ length (map (λ b. b.value) c.self.inside.full.items) * 64 + length c.self.inside.tail.items = ap length (sym c.self.view_is) ∙ length_all 64 (λ v. v.items) (map (λ b. b.value) c.self.inside.full.items) c.self.inside.tail.items c.self.invariant.0 in
    omega (arith, e, c.requires, c.if-group-len.false, c.len.ensures, c.len-else-group-len.ensures, as_many (λ b. b.value) c.self.inside.full.items)

pub returns-in_ok-items-2-clause-ok : goal.returns-in_ok-items-2-clause-ok
returns-in_ok-items-2-clause-ok g c =
    let vs = map (λ b. b.value) c.self.inside.full.items in
    let le : c.args.place / 64 < length c.self.inside.full.items = omega (arith, c.if-group-len.true, c.len.ensures) in
    let here : slice_get c.self.inside.full.items (c.args.place / 64) ≡ Some c.index.result.now = got _ _ _ le c.index.ensures in
    let there : slice_get vs (c.args.place / 64) ≡ Some c.deref.result.now = slice_get-map (λ b. b.value) c.self.inside.full.items (c.args.place / 64) ∙ ap (option_map (λ b. b.value)) here ∙ ap Some (sym c.deref.ensures) in
    let same : c.in_ok-items-2.items.value.items ≡ set c.deref.result.now.items (c.args.place % 64) c.args.item = ap (λ v. v.items) c.in_ok-items-2.ensures.ok ∙ c.in_ok-items.ensures in
    let few : c.args.place % 64 < 64 = omega arith in
    ap (λ l. flat_map (λ v. v.items) l ++ c.self.inside.tail.items) (map-set (λ b. b.value) c.self.inside.full.items (c.args.place / 64) c.in_ok-items-2.items)
    ∙ set_full 64 (λ v. v.items) vs c.self.inside.tail.items (c.args.place / 64) (c.args.place % 64) c.args.place c.deref.result.now c.in_ok-items-2.items.value c.args.item c.self.invariant.0 few (omega arith) there same
    ∙ ap (λ l. set l c.args.place c.args.item) c.self.view_is

pub returns-else-group-len-clause-ok : goal.returns-else-group-len-clause-ok
returns-else-group-len-clause-ok g c =
    let vs = map (λ b. b.value) c.self.inside.full.items in
    set_rest 64 (λ v. v.items) vs c.self.inside.tail.items c.args.place (c.args.place - c.len-else-group-len.result * 64) c.args.item c.self.invariant.0
    (omega (arith, c.if-group-len.false, c.len.ensures, c.len-else-group-len.ensures, as_many (λ b. b.value) c.self.inside.full.items))
    ∙ ap (λ l. set l c.args.place c.args.item) c.self.view_is
