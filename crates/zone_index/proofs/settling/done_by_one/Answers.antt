use Rattle.std.proofs.Common.{sym, ap, ◌∙◌, arith, slice_index_or}
use Rattle.std.specs.Option.{option_map}
use Rattle.packed_lists.specs.RowsSeen.{seen}
use Rattle.zone_index.proofs.Settled.{one_number, other_does, rule_does}
use Rattle.zone_index.proofs.settling.done_by_one.Goals as goal

pub returns-in-Rule : goal.returns-in-Rule
returns-in-Rule c =
    rule_does (slice_index_or c.args.numbers.now 0 0) c.args.numbers.now (one_number c.args.numbers.now (omega (arith, c.in-len1.len_at_least)) (omega (arith, c.in-len1.len_below)))
    c.args.rows.now.rows (seen c.in-Some.row) (sym c.get.ensures ∙ ap (option_map seen) c.in-Some.is) (sym c.if-is_root_cname.ensures) c.args.place.now c.in-Rule.field-0 c.in-Rule.is

pub returns-in-Other : goal.returns-in-Other
returns-in-Other c =
    other_does (slice_index_or c.args.numbers.now 0 0) c.args.numbers.now (one_number c.args.numbers.now (omega (arith, c.in-len1.len_at_least)) (omega (arith, c.in-len1.len_below)))
    c.args.rows.now.rows (seen c.in-Some.row) (sym c.get.ensures ∙ ap (option_map seen) c.in-Some.is) (sym c.if-is_root_cname.ensures) c.args.place.now c.in-Other.field-0 c.in-Other.is
