-- Keys that are given marks.
use Rattle.std.proofs.Common.{◌≡◌, ℕ, ◌+◌, ◌<◌, Bool, true, false, List, length, take, get_or, Some, refl, sym, ap, ◌∙◌, subst}
use Rattle.std.specs.Prelude.{All}
use Rattle.std.specs.Option.{is_some}
use Rattle.std.proofs.lemmas.List.Elements.{All-more}
use Rattle.std.specs.Str.{bytes_eq}
use Rattle.dns_record.specs.Row.{PlainRow, identity}
use Rattle.zone_rows.specs.declared.marks.Mark.{Mark}
use Rattle.zone_rows.specs.declared.steps.Step.{Step}
use Rattle.zone_rows.specs.Marks.{Kept, IsUpdated, IsNamed, AreNamed, IsStepNamed, AreFresh, HasNamed}
use Rattle.zone_rows.proofs.LiveRows.{own_mark, other_mark, own_test, some_mark}

abbrev pub new_mark : Mark
new_mark = record { count = 0; cut = 0 }

named_more : (f g : Kept) (key : List ℕ) → IsUpdated f key (Some new_mark) g → (other : List ℕ) → IsNamed f other → IsNamed g other
named_more f g key u other named = by_key (bytes_eq key other) refl
  where
    by_key : (b : Bool) → bytes_eq key other ≡ b → IsNamed g other
    by_key true t = ap is_some (own_mark f g key (Some new_mark) u other t)
    by_key false t = ap is_some (other_mark f g key (Some new_mark) u other t) ∙ named

fresh_more : (f g : Kept) (key : List ℕ) → IsUpdated f key (Some new_mark) g → AreFresh f → AreFresh g
fresh_more f g key u fresh other mark e = by_key (bytes_eq key other) refl
  where
    by_key : (b : Bool) → bytes_eq key other ≡ b → (mark.count ≡ 0) × (mark.cut ≡ 0)
    by_key true t =
        let is : mark ≡ new_mark = some_mark mark new_mark (sym e ∙ own_mark f g key (Some new_mark) u other t) in
        (ap (λ (m : Mark). m.count) is, ap (λ (m : Mark). m.cut) is)
    by_key false t = fresh other mark (sym (other_mark f g key (Some new_mark) u other t) ∙ e)

all_kept : (f g : Kept) (rows : List PlainRow) → ((key : List ℕ) → IsNamed f key → IsNamed g key) → AreNamed f rows → AreNamed g rows
all_kept f g rows keeps named k d h = keeps (identity (get_or rows k d)) (named k d h)

pub names_next : (first f g : Kept) (rows : List PlainRow) (i : ℕ) (row : PlainRow) → i < length rows → row ≡ get_or rows i row → HasNamed first f (take i rows) → IsUpdated f (identity row) (Some new_mark) g → HasNamed first g (take (i + 1) rows)
names_next first f g rows i row h is n u =
    let own : IsNamed g (identity row) = ap is_some (own_mark f g (identity row) (Some new_mark) u (identity row) (own_test (identity row))) in
    record {
      named = All-more (λ r. IsNamed g (identity r)) rows i row h (all_kept f g (take i rows) (named_more f g (identity row) u) n.named) (subst (λ (r : PlainRow). IsNamed g (identity r)) is own);
      keeps = λ key named. named_more f g (identity row) u key (n.keeps key named);
      fresh = λ fresh. fresh_more f g (identity row) u (n.fresh fresh);
    }

-- the marks of steps
pub record HasStepsNamed (f : Kept) (steps : List Step) : Type 0 where
  pub named : All (IsStepNamed f) steps
  pub fresh : AreFresh f

pub step_named : (first second third : Kept) (steps : List Step) (i : ℕ) (step : Step) → i < length steps → step ≡ get_or steps i step → HasStepsNamed first (take i steps) → HasNamed first second step.deleted → HasNamed second third step.added
    → HasStepsNamed third (take (i + 1) steps)
step_named first second third steps i step h is s d a =
    let keeps = λ (key : List ℕ) (named : IsNamed first key). a.keeps key (d.keeps key named) in
    let own : IsStepNamed third step = (all_kept second third step.deleted a.keeps d.named, a.named) in
    record {
      named = All-more (IsStepNamed third) steps i step h
          (λ k e l. let was = s.named k e l in (all_kept first third _ keeps was.0, all_kept first third _ keeps was.1))
          (subst (IsStepNamed third) is own);
      fresh = a.fresh (d.fresh s.fresh);
    }
