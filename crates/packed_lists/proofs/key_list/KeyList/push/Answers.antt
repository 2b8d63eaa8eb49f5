use Rattle.std.proofs.Common.{◌≡◌, ◌++◌, [], ◌∷◌, length, refl, ap, ◌∙◌}
use Rattle.packed_lists.specs.Cut.{keys_cut}
use Rattle.packed_lists.specs.Keyed.{PlainKeyed}
use Rattle.packed_lists.specs.declared.mark.Mark.{Mark}
use Rattle.packed_lists.proofs.Cutting.{cut_more}
use Rattle.packed_lists.proofs.key_list.KeyList.push.Goals as goal

pub returns-clause-ok : goal.returns-clause-ok
returns-clause-ok c =
    let mark : Mark = record { number = c.args.number; len = length c.args.key.now } in
    let put : PlainKeyed = record { key = c.args.key.now; number = c.args.number } in
    let marks : c.push_reserved.new.self.items ≡ c.self.inside.marks.items ++ mark ∷ [] = c.push_reserved.ensures.items ∙ ap (λ l. l ++ mark ∷ []) c.in_ok-reserve.ensures.items in
    (λ i. keys_cut (marks i) (c.in_ok-extend_from_slice.ensures.items i))
    ∙ cut_more c.self.inside.marks.items mark c.self.inside.octets.items c.args.key.now c.self.invariant refl
    ∙ ap (λ l. l ++ put ∷ []) c.self.view_is
