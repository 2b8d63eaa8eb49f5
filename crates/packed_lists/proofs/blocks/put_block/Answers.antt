use Rattle.packed_lists.specs.Stored.{PlainStored}
use Rattle.std.proofs.Common.{◌≡◌, List, ◌<◌, ◌++◌, ◌∷◌, [], length, ap, sym, ◌∙◌, arith}
use Rattle.std.proofs.Math.ListN.{set}
use Rattle.std.proofs.Math.Seq.{set-append_seam}
use Rattle.std.proofs.lemmas.List.{set-append_left}
use Rattle.packed_lists.proofs.blocks.put_block.Goals as goal

pub returns-else-place-len-clause-ok : goal.returns-else-place-len-clause-ok
returns-else-place-len-clause-ok c =
    let xs = c.args.blocks.now in
    let h : length xs ≡ c.args.place = omega (arith, c.requires, c.if-place-len.false, c.len.ensures.len) in
    sym (ap (λ n. set (xs ++ c.args.tail.now ∷ []) n c.args.block) (sym h) ∙ set-append_seam xs c.args.tail.now [] c.args.block)

pub returns-in_ok-set-clause-ok : goal.returns-in_ok-set-clause-ok
returns-in_ok-set-clause-ok c =
    let xs : List (List PlainStored) = c.args.blocks.now in
    let h : c.args.place < length xs = omega (arith, c.if-place-len.true, c.len.ensures.len) in
    ap (λ (l : List (List PlainStored)). l ++ c.args.tail.now ∷ []) (c.in_ok-set.ensures.ok ∙ ap (set xs c.args.place) c.in_ok-held.ensures)
    ∙ sym (set-append_left xs (c.args.tail.now ∷ []) c.args.place c.args.block h)
