use Rattle.std.proofs.Common.{◌^◌, sym}
use Rattle.packed_lists.specs.RowsSeen.{seen}
use Rattle.packed_lists.proofs.Rising.{found_at}
use Rattle.packed_lists.proofs.block.Block.find.Goals as goal

pub returns-then-row-number : goal.returns-then-row-number
returns-then-row-number c =
    sym (found_at c.args.number 0 (2 ^ 32) c.likely_place-place.result c.args.self.now (seen c.get-row.result) c.requires c.get-row.ensures c.if-row-number.true)
