use Rattle.std.proofs.Common.{sym, ◌∙◌}
use Rattle.zone_index.proofs.Edited.{Editing, with_none, with_numbers, with_indexed, with_some}
use Rattle.zone_index.proofs.Ties.{NameLaws}
use Rattle.zone_index.proofs.indexed.IndexedRows.with_at.Goals as goal

pub returns-then-is_some : goal.returns-then-is_some
returns-then-is_some c =
    let laws : NameLaws = record { by_octets = c.names_of_equal_octets_are_equal.ensures; lower_once = c.case_does_not_matter.ensures.lower } in
    let e : Editing c.self.inside.origin c.self.inside.rows c.self.inside.index c.args.row.now c.args.place.now c.args.self = record {
      laws = laws;
      alike = λ row other is_row is_other same. (c.rows_of_one_identity_differ_in_the_ttl_alone.ensures row other is_row is_other).0 same;
      rise = c.len-count.ensures.rising;
      is = c.self.invariant;
      ranked = c.in_order.ensures.ranked;
      is_row = c.owner-owner.ensures.is_row;
      at = c.requires;
      view = c.self.view_is;
    } in
    with_none c.self.inside.origin c.self.inside.rows c.self.inside.index c.args.row.now c.args.place.now c.args.self e c.in_ok-number_in.field-0 c.in_ok-number_in.ensures (sym c.is_some.ensures ∙ c.if-is_some.true)

pub added-requires-clause-numbers : goal.added-requires-clause-numbers
added-requires-clause-numbers c =
    let laws : NameLaws = record { by_octets = c.names_of_equal_octets_are_equal.ensures; lower_once = c.case_does_not_matter.ensures.lower } in
    let e : Editing c.self.inside.origin c.self.inside.rows c.self.inside.index c.args.row.now c.args.place.now c.args.self = record {
      laws = laws;
      alike = λ row other is_row is_other same. (c.rows_of_one_identity_differ_in_the_ttl_alone.ensures row other is_row is_other).0 same;
      rise = c.len-count.ensures.rising;
      is = c.self.invariant;
      ranked = c.in_order.ensures.ranked;
      is_row = c.owner-owner.ensures.is_row;
      at = c.requires;
      view = c.self.view_is;
    } in
    with_numbers c.self.inside.origin c.self.inside.rows c.self.inside.index c.args.row.now c.args.place.now c.args.self e

pub invariant_of-new : goal.invariant_of-new
invariant_of-new c =
    let laws : NameLaws = record { by_octets = c.names_of_equal_octets_are_equal.ensures; lower_once = c.case_does_not_matter.ensures.lower } in
    let e : Editing c.self.inside.origin c.self.inside.rows c.self.inside.index c.args.row.now c.args.place.now c.args.self = record {
      laws = laws;
      alike = λ row other is_row is_other same. (c.rows_of_one_identity_differ_in_the_ttl_alone.ensures row other is_row is_other).0 same;
      rise = c.len-count.ensures.rising;
      is = c.self.invariant;
      ranked = c.in_order.ensures.ranked;
      is_row = c.owner-owner.ensures.is_row;
      at = c.requires;
      view = c.self.view_is;
    } in
    with_indexed c.self.inside.origin c.self.inside.rows c.self.inside.index c.args.row.now c.args.place.now c.args.self e c.in_ok-number_in.field-0 c.in_ok-rows.field-0.rows c.in_ok-rows.field-0.index c.in_ok-number_in.ensures (sym c.is_some.ensures ∙ c.if-is_some.false) c.in_ok-rows.ensures.rows c.in_ok-rows.ensures.index

pub returns : goal.returns
returns c =
    let laws : NameLaws = record { by_octets = c.names_of_equal_octets_are_equal.ensures; lower_once = c.case_does_not_matter.ensures.lower } in
    let e : Editing c.self.inside.origin c.self.inside.rows c.self.inside.index c.args.row.now c.args.place.now c.args.self = record {
      laws = laws;
      alike = λ row other is_row is_other same. (c.rows_of_one_identity_differ_in_the_ttl_alone.ensures row other is_row is_other).0 same;
      rise = c.len-count.ensures.rising;
      is = c.self.invariant;
      ranked = c.in_order.ensures.ranked;
      is_row = c.owner-owner.ensures.is_row;
      at = c.requires;
      view = c.self.view_is;
    } in
    with_some c.self.inside.origin c.self.inside.rows c.self.inside.index c.args.row.now c.args.place.now c.args.self e c.in_ok-number_in.field-0 c.in_ok-rows.field-0.rows c.in_ok-number_in.ensures (sym c.is_some.ensures ∙ c.if-is_some.false) c.in_ok-rows.ensures.rows
