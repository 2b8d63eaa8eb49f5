use Rattle.std.proofs.Common.{◌≡◌, ◌++◌, ◌∷◌, [], List, ℕ, Ok, Err, OnErr, Result, ap, ◌∙◌, arith, append_assoc, map, refl}
use Rattle.packed_lists.specs.Packed.{unpacked}
use Rattle.packed_lists.specs.RowsSeen.{seen}
use Rattle.packed_lists.proofs.Packing.{kept_rows, kept_within, came_rows, came_within, Came}
use Rattle.packed_lists.proofs.block.Block.push.Goals as goal

on_err : {A E : Type 0} (r : Result A E) (P : Type 0) → P → OnErr r P
on_err (Ok _) P p = tt
on_err (Err _) P p = p

-- src/block.rt:107:9
pub returns-in_err-extend_from_slice-2-clause-err :
    goal.returns-in_err-extend_from_slice-2-clause-err
returns-in_err-extend_from_slice-2-clause-err c =
    on_err _ _ (kept_rows c.self.inside.octets.items c.args.row.owner.now c.extend_from_slice-2.new.self.items c.self.inside.entries.items
    (c.in_err-extend_from_slice-2.ensures.items ∙ c.in_ok-extend_from_slice.ensures.items) c.self.invariant ∙ c.self.view_is)

-- src/block.rt:108:9
pub invariant_of-self-in_err-push : goal.invariant_of-self-in_err-push
invariant_of-self-in_err-push c =
    let xs = c.self.inside.octets.items in
    let os : List ℕ = c.args.row.owner.now in
    let ds : List ℕ = c.args.row.rdata.now in
    let new : c.extend_from_slice-2.new.self.items ≡ (xs ++ os) ++ ds = c.in_ok-extend_from_slice-2.ensures.items ∙ ap (λ l. l ++ ds) c.in_ok-extend_from_slice.ensures.items in
    rw c.in_err-push.ensures.items (kept_within xs (os ++ ds) c.extend_from_slice-2.new.self.items c.self.inside.entries.items (new ∙ append_assoc xs os ds) c.self.invariant)

-- src/block.rt:108:9
pub returns-in_err-push-clause-err : goal.returns-in_err-push-clause-err
returns-in_err-push-clause-err c =
    let xs = c.self.inside.octets.items in
    let os : List ℕ = c.args.row.owner.now in
    let ds : List ℕ = c.args.row.rdata.now in
    let new : c.extend_from_slice-2.new.self.items ≡ (xs ++ os) ++ ds = c.in_ok-extend_from_slice-2.ensures.items ∙ ap (λ l. l ++ ds) c.in_ok-extend_from_slice.ensures.items in
    on_err _ _ (ap (map (unpacked c.extend_from_slice-2.new.self.items)) c.in_err-push.ensures.items
    ∙ kept_rows xs (os ++ ds) c.extend_from_slice-2.new.self.items c.self.inside.entries.items (new ∙ append_assoc xs os ds) c.self.invariant ∙ c.self.view_is)

-- src/block.rt:94:5
pub invariant_of-self-2 : goal.invariant_of-self-2
invariant_of-self-2 c =
    let new : c.extend_from_slice-2.new.self.items ≡ (c.self.inside.octets.items ++ c.args.row.owner.now) ++ c.args.row.rdata.now = c.in_ok-extend_from_slice-2.ensures.items ∙ ap (λ l. l ++ c.args.row.rdata.now) c.in_ok-extend_from_slice.ensures.items in
    let came : Came c.self.inside.octets.items c.args.row.owner.now c.args.row.rdata.now c.extend_from_slice-2.new.self.items c.self.inside.entries.items c.push.new.self.items _ = record { octets = new; entries = c.in_ok-push.ensures.items; start = omega (arith, c.len-start.ensures); owner_len = refl; data_len = refl } in
    came_within _ _ _ _ _ _ _ came c.self.invariant

-- src/block.rt:94:5
pub returns-clause-ok : goal.returns-clause-ok
returns-clause-ok c =
    let new : c.extend_from_slice-2.new.self.items ≡ (c.self.inside.octets.items ++ c.args.row.owner.now) ++ c.args.row.rdata.now = c.in_ok-extend_from_slice-2.ensures.items ∙ ap (λ l. l ++ c.args.row.rdata.now) c.in_ok-extend_from_slice.ensures.items in
    let came : Came c.self.inside.octets.items c.args.row.owner.now c.args.row.rdata.now c.extend_from_slice-2.new.self.items c.self.inside.entries.items c.push.new.self.items _ = record { octets = new; entries = c.in_ok-push.ensures.items; start = omega (arith, c.len-start.ensures); owner_len = refl; data_len = refl } in
    came_rows _ _ _ _ _ _ _ came c.self.invariant ∙ ap (λ rows. rows ++ seen c.args.row ∷ []) c.self.view_is
