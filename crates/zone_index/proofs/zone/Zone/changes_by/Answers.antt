use Rattle.std.proofs.Common.{ap, sym, ◌∙◌}
use Rattle.std.specs.Prelude.{option_copied}
use Rattle.zone_rows.specs.declared.transfer.Transfer.TheVariants.{Steps, Whole}
use Rattle.zone_index.proofs.Changed.{kept_view, listed_seen, steps_seen, whole_seen}
use Rattle.zone_index.proofs.Numbered.{AreAlikeByIdentity}
use Rattle.zone_index.proofs.Ties.{NameLaws}
use Rattle.zone_index.proofs.zone.Zone.changes_by.Goals as goal

pub returns-in-Whole-clause-changes : goal.returns-in-Whole-clause-changes
returns-in-Whole-clause-changes c =
    let laws : NameLaws = record { by_octets = c.names_of_equal_octets_are_equal.ensures; lower_once = c.case_does_not_matter.ensures.lower } in
    let alike : AreAlikeByIdentity = λ row other is_row is_other same. (c.rows_of_one_identity_differ_in_the_ttl_alone.ensures row other is_row is_other).0 same in
    whole_seen laws alike _ c.self.inside.origin (option_copied c.as_ref-loaded.result) c.args.self.now c.args.transfer.now c.in-Whole.soa c.in-Whole.rows c.changed_by_whole.result
    (kept_view c.self.inside.origin (option_copied c.as_ref-loaded.result) c.self.inside.loaded c.args.self.now c.as_ref-loaded.ensures.value c.self.view_is)
    c.in-Whole.is c.held_count-count.ensures.rows c.changed_by_whole.ensures.rows c.changed_by_whole.ensures.changes

pub returns-in-Steps-clause-changes : goal.returns-in-Steps-clause-changes
returns-in-Steps-clause-changes c =
    let laws : NameLaws = record { by_octets = c.names_of_equal_octets_are_equal.ensures; lower_once = c.case_does_not_matter.ensures.lower } in
    let alike : AreAlikeByIdentity = λ row other is_row is_other same. (c.rows_of_one_identity_differ_in_the_ttl_alone.ensures row other is_row is_other).0 same in
    steps_seen laws alike _ c.self.inside.origin (option_copied c.as_ref-loaded.result) c.args.self.now c.args.transfer.now c.as_slice.result.now c.changed_by_steps.result
    (kept_view c.self.inside.origin (option_copied c.as_ref-loaded.result) c.self.inside.loaded c.args.self.now c.as_ref-loaded.ensures.value c.self.view_is)
    (c.in-Steps.is ∙ ap Steps (sym c.as_slice.ensures.steps)) c.held_count-count.ensures.rows c.changed_by_steps.ensures.rows c.changed_by_steps.ensures.changes

pub returns-in-Whole-clause-listed : goal.returns-in-Whole-clause-listed
returns-in-Whole-clause-listed c =
    listed_seen c.args.most c.self.inside.origin (option_copied c.as_ref-loaded.result) c.args.self.now c.args.transfer.now (Whole c.in-Whole.soa c.in-Whole.rows) c.changed_by_whole.result
    (kept_view c.self.inside.origin (option_copied c.as_ref-loaded.result) c.self.inside.loaded c.args.self.now c.as_ref-loaded.ensures.value c.self.view_is)
    c.in-Whole.is c.changed_by_whole.ensures.changes

pub returns-in-Steps-clause-listed : goal.returns-in-Steps-clause-listed
returns-in-Steps-clause-listed c =
    listed_seen c.args.most c.self.inside.origin (option_copied c.as_ref-loaded.result) c.args.self.now c.args.transfer.now (Steps c.as_slice.result.now) c.changed_by_steps.result
    (kept_view c.self.inside.origin (option_copied c.as_ref-loaded.result) c.self.inside.loaded c.args.self.now c.as_ref-loaded.ensures.value c.self.view_is)
    (c.in-Steps.is ∙ ap Steps (sym c.as_slice.ensures.steps)) c.changed_by_steps.ensures.changes
