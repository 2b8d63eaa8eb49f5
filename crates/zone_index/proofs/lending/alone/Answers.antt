use Rattle.std.proofs.Common.{sym, ap, ◌∙◌}
use Rattle.std.specs.Option.{option_map}
use Rattle.packed_lists.specs.RowsSeen.{seen}
use Rattle.zone_index.proofs.Numbered.{found_stored}
use Rattle.zone_index.proofs.lending.alone.Goals as goal

pub new-requires : goal.new-requires
new-requires c = found_stored c.in-Some.number c.args.rows.now.rows (seen c.in-Some-get.row) c.requires (sym c.get.ensures ∙ ap (option_map seen) c.in-Some-get.is)
