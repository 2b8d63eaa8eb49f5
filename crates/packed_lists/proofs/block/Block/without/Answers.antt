use Rattle.std.proofs.Common.{ap, sym, ◌∙◌, ◌++◌, [], ◌∷◌}
use Rattle.packed_lists.specs.Stored.{without_number}
use Rattle.packed_lists.specs.RowsSeen.{seen}
use Rattle.packed_lists.proofs.Rising.{without_more}
use Rattle.packed_lists.proofs.block.Block.without.Goals as goal

pub loop-place-preserved : goal.loop-place-preserved
loop-place-preserved c =
    c.in_ok-keep_other.ensures ∙ ap (λ l. l ++ without_number c.args.number (seen c.get-row.result ∷ [])) c.loop-place.invariant
    ∙ sym (without_more c.args.number c.loop-place.place c.args.self.now (seen c.get-row.result) c.get-row.ensures)
