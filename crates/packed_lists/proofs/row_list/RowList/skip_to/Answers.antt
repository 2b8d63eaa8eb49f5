use Rattle.std.proofs.Common.{◌++◌, ◌∷◌, [], ap, arith}
use Rattle.packed_lists.specs.Blocks.{PlainRowList}
use Rattle.packed_lists.proofs.Joined.{indexed_higher}
use Rattle.packed_lists.proofs.row_list.RowList.skip_to.Goals as goal

pub invariant_of-self : goal.invariant_of-self
invariant_of-self c =
    indexed_higher c.self.inside.firsts c.self.inside.starts (c.self.inside.blocks ++ c.self.inside.tail ∷ []) c.self.inside.next c.args.next c.self.invariant
    (omega (arith, c.requires, ap (λ (v : PlainRowList). v.next) c.self.view_is)) (omega arith)
