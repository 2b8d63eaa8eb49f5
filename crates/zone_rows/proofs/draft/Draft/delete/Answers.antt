use Rattle.std.proofs.Common.{◌≡◌, ℕ, ◌+◌, ◌-◌, List, Some, Ok, Err, sym, ap, ◌∙◌, subst, arith, length-append}
use Rattle.dns_record.specs.Row.{identity}
use Rattle.zone_rows.specs.declared.fault.ApplyFault.TheVariants.{DeleteAbsent}
use Rattle.zone_rows.specs.declared.marks.Mark.{Mark}
use Rattle.zone_rows.specs.Drafts.{slots_of, rows_of}
use Rattle.zone_rows.specs.Marks.{mark_of, IsUpdated, count_key}
use Rattle.zone_rows.proofs.LiveRows.{HasDeleted, has_deleted, count_le}
use Rattle.zone_rows.proofs.DraftSteps.{deleted_ok, deleted_absent, not_absent}
use Rattle.zone_rows.proofs.draft.Draft.delete.Goals.{in_default-via-in-Some+else-mark-gt0, in_default-via-in_default}
use Rattle.zone_rows.proofs.draft.Draft.delete.Goals as goal

pub overflow_sub-self : goal.overflow_sub-self
overflow_sub-self c =
    let here : mark_of c.args.self.now.marks (identity c.args.row.now) ≡ Some c.in-Some.mark = sym (c.in-Some.ensures ∙ ap (mark_of c.args.self.now.marks) (c.as_slice.ensures.value ∙ c.in_ok-key.ensures)) in
    let count : c.in-Some.mark.count ≡ count_key (identity c.args.row.now) (rows_of c.args.base.now c.args.self.now) = c.requires.draft.counts (identity c.args.row.now) c.in-Some.mark here in
    omega (arith, count, count_le (identity c.args.row.now) (rows_of c.args.base.now c.args.self.now), c.requires.draft.count)

pub returns-in_ok-put-in-Some : goal.returns-in_ok-put-in-Some
returns-in_ok-put-in-Some c =
    let here : mark_of c.args.self.now.marks (identity c.args.row.now) ≡ Some c.in-Some.mark = sym (c.in-Some.ensures ∙ ap (mark_of c.args.self.now.marks) (c.as_slice.ensures.value ∙ c.in_ok-key.ensures)) in
    let count : c.in-Some.mark.count ≡ count_key (identity c.args.row.now) (rows_of c.args.base.now c.args.self.now) = c.requires.draft.counts (identity c.args.row.now) c.in-Some.mark here in
    let bound : ℕ = c.len.result + c.len-in-Some.result in
    let new : Mark = record { count = 0; cut = bound } in
    let u : IsUpdated (mark_of c.args.self.now.marks) (identity c.args.row.now) (Some new) (mark_of c.put.new.self) =
    subst (λ (k : List ℕ). IsUpdated (mark_of c.args.self.now.marks) k (Some new) (mark_of c.put.new.self)) c.in_ok-key.ensures c.in_ok-put-in-Some.ensures.ok in
    let left : ℕ = c.args.self.now.live - c.in-Some.mark.count in
    let h : HasDeleted (mark_of c.args.self.now.marks) (mark_of c.put.new.self) (slots_of c.args.base.now c.args.self.now) left (identity c.args.row.now) =
    has_deleted (mark_of c.args.self.now.marks) (mark_of c.put.new.self) (slots_of c.args.base.now c.args.self.now) c.args.self.now.live (identity c.args.row.now) c.in-Some.mark bound left c.requires.draft here
    (omega (arith, length-append c.args.base.now c.args.self.now.added, c.len.ensures.len, c.len-in-Some.ensures.len))
    u
    (omega (arith, count, count_le (identity c.args.row.now) (rows_of c.args.base.now c.args.self.now), c.requires.draft.count)) in
    record {
      rows = deleted_ok (c.args.step + 1) (c.args.place + 1) c.in-Some.mark.count (rows_of c.args.base.now c.args.self.now) c.args.row.now count c.if-mark-gt0.true ∙ ap Ok (sym h.rows);
      is_draft = h.marks;
      names = h.names;
    }

pub returns-in_ok-number-in_default-2 : goal.returns-in_ok-number-in_default-2
returns-in_ok-number-in_default-2 c =
    let key : c.as_slice.result.now ≡ identity c.args.row.now = c.as_slice.ensures.value ∙ c.in_ok-key.ensures in
    elim c.in_default.branch [
      | in_default-via-in-Some+else-mark-gt0 w ↦
          let here : mark_of c.args.self.now.marks (identity c.args.row.now) ≡ Some w.in-Some.mark = sym (w.in-Some.ensures ∙ ap (mark_of c.args.self.now.marks) key) in
          deleted_absent (c.args.step + 1) (c.args.place + 1) w.in-Some.mark.count (rows_of c.args.base.now c.args.self.now) c.args.row.now (c.requires.draft.counts (identity c.args.row.now) w.in-Some.mark here) (omega (arith, w.if-mark-gt0.false))
          ∙ (λ i. Err (DeleteAbsent (sym c.in_ok-number-in_default.ensures.number i) (sym c.in_ok-number-in_default-2.ensures.number i)))
      | in_default-via-in_default w ↦ not_absent (mark_of c.args.self.now.marks) (identity c.args.row.now) c.requires.named (sym (w.in_default.ensures ∙ ap (mark_of c.args.self.now.marks) key))
    ]
