use Rattle.std.proofs.Common.{◌≡◌, ℕ, ◌+◌, List, ◌++◌, Option, Some, Ok, Err, refl, sym, ap, ◌∙◌, subst, arith, append_assoc, [], ◌∷◌}
use Rattle.std.specs.Option.{option_map}
use Rattle.dns_record.specs.Row.{PlainRow, identity}
use Rattle.zone_rows.specs.declared.fault.ApplyFault.TheVariants.{AddPresent}
use Rattle.zone_rows.specs.declared.marks.Mark.{Mark}
use Rattle.zone_rows.specs.Drafts.{slots_of, rows_of}
use Rattle.zone_rows.specs.Marks.{mark_of, IsUpdated, AreMarks, live_from, one_more}
use Rattle.zone_rows.proofs.LiveRows.{HasAdded, has_added}
use Rattle.zone_rows.proofs.DraftSteps.{added_ok, added_full, added_present, not_absent}
use Rattle.zone_rows.proofs.draft.Draft.add.Goals.{in_default-via-in-Some+else-mark-eq0, in_default-via-in_default}
use Rattle.zone_rows.proofs.draft.Draft.add.Goals as goal

pub returns-then-self-saturating_sub : goal.returns-then-self-saturating_sub
returns-then-self-saturating_sub c =
    let here : mark_of c.args.self.now.marks (identity c.args.row.now) ≡ Some c.in-Some.mark = sym (c.in-Some.ensures ∙ ap (mark_of c.args.self.now.marks) (c.as_slice.ensures.value ∙ c.in_ok-key.ensures)) in
    added_full c.args.bound (c.args.step + 1) (c.args.place + 1) c.in-Some.mark.count c.args.self.now.live (rows_of c.args.base.now c.args.self.now) c.args.row.now (c.requires.draft.counts (identity c.args.row.now) c.in-Some.mark here) c.if-mark-eq0.true c.requires.draft.count
    (omega (arith, c.if-self-saturating_sub.true, c.saturating_sub.ensures))

pub returns-in_ok-push_ref-in-Some : goal.returns-in_ok-push_ref-in-Some
returns-in_ok-push_ref-in-Some c =
    let here : mark_of c.args.self.now.marks (identity c.args.row.now) ≡ Some c.in-Some.mark = sym (c.in-Some.ensures ∙ ap (mark_of c.args.self.now.marks) (c.as_slice.ensures.value ∙ c.in_ok-key.ensures)) in
    let key : c.in_ok-key.key.items ≡ identity c.args.row.now = c.in_ok-key.ensures in
    let one : ◌≡◌ {A = Option Mark} (Some (record { count = 1; cut = c.in-Some.mark.cut })) (option_map one_more (mark_of c.args.self.now.marks (identity c.args.row.now))) =
    (λ i. Some (record { count = sym c.if-mark-eq0.true i + 1; cut = c.in-Some.mark.cut })) ∙ ap (option_map one_more) (sym here) in
    let own : IsUpdated (mark_of c.args.self.now.marks) (identity c.args.row.now) (Some (record { count = 1; cut = c.in-Some.mark.cut })) (mark_of c.put.new.self) =
    subst (λ (k : List ℕ). IsUpdated (mark_of c.args.self.now.marks) k (Some (record { count = 1; cut = c.in-Some.mark.cut })) (mark_of c.put.new.self)) key c.in_ok-put-in-Some.ensures.ok in
    let u : IsUpdated (mark_of c.args.self.now.marks) (identity c.args.row.now) (option_map one_more (mark_of c.args.self.now.marks (identity c.args.row.now))) (mark_of c.put.new.self) =
    subst (λ (m : Option Mark). IsUpdated (mark_of c.args.self.now.marks) (identity c.args.row.now) m (mark_of c.put.new.self)) one own in
    let h : HasAdded (mark_of c.args.self.now.marks) (mark_of c.put.new.self) (slots_of c.args.base.now c.args.self.now) (c.args.self.now.live + 1) c.args.row.now =
    has_added (mark_of c.args.self.now.marks) (mark_of c.put.new.self) (slots_of c.args.base.now c.args.self.now) c.args.self.now.live c.args.row.now (c.args.self.now.live + 1) c.requires.draft u refl in
    let e : c.args.base.now ++ c.push_ref.new.self ≡ slots_of c.args.base.now c.args.self.now ++ c.args.row.now ∷ [] =
    ap (λ (l : List PlainRow). c.args.base.now ++ l) c.in_ok-push_ref-in-Some.ensures.ok ∙ sym (append_assoc c.args.base.now c.args.self.now.added (c.args.row.now ∷ [])) in
    record {
      rows = added_ok c.args.bound (c.args.step + 1) (c.args.place + 1) c.in-Some.mark.count c.args.self.now.live (rows_of c.args.base.now c.args.self.now) c.args.row.now (c.requires.draft.counts (identity c.args.row.now) c.in-Some.mark here) c.if-mark-eq0.true c.requires.draft.count
          (omega (arith, c.if-self-saturating_sub.false, c.saturating_sub.ensures))
          ∙ ap Ok (sym (ap (live_from (mark_of c.put.new.self) 0) e ∙ h.rows));
      is_draft = subst (λ (slots : List PlainRow). AreMarks (mark_of c.put.new.self) slots (c.args.self.now.live + 1)) (sym e) h.marks;
      names = h.names;
    }

pub returns-in_ok-number-in_default-2 : goal.returns-in_ok-number-in_default-2
returns-in_ok-number-in_default-2 c =
    let key : c.as_slice.result.now ≡ identity c.args.row.now = c.as_slice.ensures.value ∙ c.in_ok-key.ensures in
    elim c.in_default.branch [
      | in_default-via-in-Some+else-mark-eq0 w ↦
          let here : mark_of c.args.self.now.marks (identity c.args.row.now) ≡ Some w.in-Some.mark = sym (w.in-Some.ensures ∙ ap (mark_of c.args.self.now.marks) key) in
          added_present c.args.bound (c.args.step + 1) (c.args.place + 1) w.in-Some.mark.count (rows_of c.args.base.now c.args.self.now) c.args.row.now (c.requires.draft.counts (identity c.args.row.now) w.in-Some.mark here) (omega (arith, w.if-mark-eq0.false))
          ∙ (λ i. Err (AddPresent (sym c.in_ok-number-in_default.ensures.number i) (sym c.in_ok-number-in_default-2.ensures.number i)))
      | in_default-via-in_default w ↦ not_absent (mark_of c.args.self.now.marks) (identity c.args.row.now) c.requires.named (sym (w.in_default.ensures ∙ ap (mark_of c.args.self.now.marks) key))
    ]
