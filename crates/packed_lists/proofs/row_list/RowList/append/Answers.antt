use Rattle.std.proofs.Common.{◌≡◌, List, ◌+◌, ◌≤◌, ◌++◌, ◌∷◌, [], ap, sym, ◌∙◌, subst, arith}
use Rattle.packed_lists.specs.Stored.{PlainStored}
use Rattle.packed_lists.specs.RowsSeen.{seen}
use Rattle.packed_lists.specs.Blocks.{PlainRowList, IsIndexed, joined}
use Rattle.packed_lists.proofs.Joined.{indexed_row, joined_row}
use Rattle.packed_lists.proofs.row_list.RowList.append.Goals as goal

pub invariant_of-self-then-branch : goal.invariant_of-self-then-branch
invariant_of-self-then-branch c =
    let bs : List (List PlainStored) = c.self.inside.blocks in
    let new : c.push.new.self ≡ c.self.inside.tail ++ seen c.args.row ∷ [] = rw c.if-branch.true at c.in_ok-push.ensures.ok in
    let above : c.self.inside.next ≤ c.args.row.number = omega (arith, c.requires.above, ap (λ (v : PlainRowList). v.next) c.self.view_is) in
    subst (λ (t : List PlainStored). IsIndexed c.self.inside.firsts c.self.inside.starts (bs ++ t ∷ []) (c.args.row.number + 1)) (sym new)
    (indexed_row c.self.inside.firsts c.self.inside.starts bs c.self.inside.tail c.self.inside.next (seen c.args.row) c.self.invariant above c.requires.below)

pub returns-then-branch-clause-ok : goal.returns-then-branch-clause-ok
returns-then-branch-clause-ok c =
    let bs : List (List PlainStored) = c.self.inside.blocks in
    let new : c.push.new.self ≡ c.self.inside.tail ++ seen c.args.row ∷ [] = rw c.if-branch.true at c.in_ok-push.ensures.ok in
    let rows : joined (bs ++ c.push.new.self ∷ []) ≡ c.args.self.now.rows ++ seen c.args.row ∷ [] =
    ap (λ (t : List PlainStored). joined (bs ++ t ∷ [])) new ∙ joined_row bs c.self.inside.tail (seen c.args.row) ∙ ap (λ (v : PlainRowList). v.rows ++ seen c.args.row ∷ []) c.self.view_is in
    λ i. record { rows = rows i; next = c.args.row.number + 1 }
