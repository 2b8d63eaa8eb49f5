use Rattle.zone_index.proofs.Edited.{Editing, none_if, without_none, without_numbers, without_indexed, without_some}
use Rattle.zone_index.proofs.Ties.{NameLaws}
use Rattle.zone_index.proofs.indexed.IndexedRows.without_at.Goals as goal

pub returns-in_default : goal.returns-in_default
returns-in_default c =
    let laws : NameLaws = record { by_octets = c.names_of_equal_octets_are_equal.ensures; lower_once = c.case_does_not_matter.ensures.lower } in
    let e : Editing c.self.inside.origin c.self.inside.rows c.self.inside.index c.args.row.now c.args.place.now c.args.self = record {
      laws = laws;
      alike = λ row other is_row is_other same. (c.rows_of_one_identity_differ_in_the_ttl_alone.ensures row other is_row is_other).0 same;
      rise = c.len-count.ensures.rising;
      is = c.self.invariant;
      ranked = c.in_order.ensures.ranked;
      is_row = c.owner-owner.ensures.is_row;
      at = c.requires;
      view = c.self.view_is;
    } in
    without_none c.self.inside.origin c.self.inside.rows c.self.inside.index c.args.row.now c.args.place.now c.args.self e c.in_ok-number.field-0 c.in_ok-number.ensures (none_if c.in_ok-number.field-0 c.in_default.not-Some)

pub removed-requires-clause-numbers : goal.removed-requires-clause-numbers
removed-requires-clause-numbers c =
    let laws : NameLaws = record { by_octets = c.names_of_equal_octets_are_equal.ensures; lower_once = c.case_does_not_matter.ensures.lower } in
    let e : Editing c.self.inside.origin c.self.inside.rows c.self.inside.index c.args.row.now c.args.place.now c.args.self = record {
      laws = laws;
      alike = λ row other is_row is_other same. (c.rows_of_one_identity_differ_in_the_ttl_alone.ensures row other is_row is_other).0 same;
      rise = c.len-count.ensures.rising;
      is = c.self.invariant;
      ranked = c.in_order.ensures.ranked;
      is_row = c.owner-owner.ensures.is_row;
      at = c.requires;
      view = c.self.view_is;
    } in
    without_numbers c.self.inside.origin c.self.inside.rows c.self.inside.index c.args.row.now c.args.place.now c.args.self e c.in-Some.number c.in_ok-number.field-0 c.in_ok-number.ensures c.in-Some.is

pub invariant_of-new : goal.invariant_of-new
invariant_of-new c =
    let laws : NameLaws = record { by_octets = c.names_of_equal_octets_are_equal.ensures; lower_once = c.case_does_not_matter.ensures.lower } in
    let e : Editing c.self.inside.origin c.self.inside.rows c.self.inside.index c.args.row.now c.args.place.now c.args.self = record {
      laws = laws;
      alike = λ row other is_row is_other same. (c.rows_of_one_identity_differ_in_the_ttl_alone.ensures row other is_row is_other).0 same;
      rise = c.len-count.ensures.rising;
      is = c.self.invariant;
      ranked = c.in_order.ensures.ranked;
      is_row = c.owner-owner.ensures.is_row;
      at = c.requires;
      view = c.self.view_is;
    } in
    without_indexed c.self.inside.origin c.self.inside.rows c.self.inside.index c.args.row.now c.args.place.now c.args.self e c.in-Some.number c.in_ok-number.field-0 c.in_ok-rows.field-0.rows c.in_ok-rows.field-0.index c.in_ok-number.ensures c.in-Some.is c.in_ok-rows.ensures.rows c.in_ok-rows.ensures.index

pub returns : goal.returns
returns c =
    let laws : NameLaws = record { by_octets = c.names_of_equal_octets_are_equal.ensures; lower_once = c.case_does_not_matter.ensures.lower } in
    let e : Editing c.self.inside.origin c.self.inside.rows c.self.inside.index c.args.row.now c.args.place.now c.args.self = record {
      laws = laws;
      alike = λ row other is_row is_other same. (c.rows_of_one_identity_differ_in_the_ttl_alone.ensures row other is_row is_other).0 same;
      rise = c.len-count.ensures.rising;
      is = c.self.invariant;
      ranked = c.in_order.ensures.ranked;
      is_row = c.owner-owner.ensures.is_row;
      at = c.requires;
      view = c.self.view_is;
    } in
    without_some c.self.inside.origin c.self.inside.rows c.self.inside.index c.args.row.now c.args.place.now c.args.self e c.in-Some.number c.in_ok-number.field-0 c.in_ok-rows.field-0.rows c.in_ok-number.ensures c.in-Some.is c.in_ok-rows.ensures.rows
