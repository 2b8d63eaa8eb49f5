use Rattle.std.proofs.Common.{sym, ap, ◌∙◌}
use Rattle.std.specs.Option.{option_map}
use Rattle.packed_lists.specs.RowsSeen.{seen}
use Rattle.zone_index.proofs.Numbered.{found_stored}
use Rattle.zone_index.proofs.finding.has_it.Goals as goal

pub new-requires : goal.new-requires
new-requires c = found_stored c.args.number c.args.rows.now.rows (seen c.in-Some.row) c.requires (sym c.get.ensures ∙ ap (option_map seen) c.in-Some.is)
