use Rattle.std.proofs.Common.{◌≡◌, Bool, ℕ, List, ◌++◌, refl, ◌∙◌, ap, subst}
use Rattle.std.specs.Prelude.{is_some}
use Rattle.std.proofs.lemmas.Result.{err_from_is_err_and}
use Rattle.edge_io.specs.Edge.{WritesPrefix}
use Rattle.rpz_program.specs.Serving.{Wrote}
use Rattle.rpz_program.proofs.Turned.{advanced_once, stopped_now, stopped_writing, turned}
use Rattle.rpz_program.proofs.turning.take_turn.Goals as goal

pub returns-in_err-wake-clause-err : goal.returns-in_err-wake-clause-err
returns-in_err-wake-clause-err g c =
    let p = err_from_is_err_and c.from_residual.result c.from_residual.ensures.1 in
    rw p.1 (λ is_open. stopped_now _ _ _ _ _ refl)

pub returns-in_err-what-clause-err : goal.returns-in_err-what-clause-err
returns-in_err-what-clause-err g c =
    let p = err_from_is_err_and c.from_residual-in_err-what.result c.from_residual-in_err-what.ensures.1 in
    rw p.1 (λ is_open. stopped_now _ _ _ _ _ refl)

pub returns-in_err-is_cut-clause-err : goal.returns-in_err-is_cut-clause-err
returns-in_err-is_cut-clause-err g c =
    let p = err_from_is_err_and c.from_residual-in_err-is_cut.result c.from_residual-in_err-is_cut.ensures.1 in
    let t = c.in_ok-what.ensures.takes in
    let same : c.deref.result.now ≡ t.0 = c.deref.ensures.value ∙ t.1 ∙ ap (λ (x : List ℕ). x ++ t.0) c.new-text.ensures.items in
    let next = λ (is_open : Bool). turned (is_some c.args.next_try) c.is_time-is_anew.result _ _ _ _ _ _ _ _ _ _ (g.C.Clock.moments c.args.clock.now) (g.C.Clock.moments c.now-second.new.self) c.now-second.result c.args.progress.second is_open c.in_ok-wake.wake t.0 c.in_ok-what.what c.in_ok-wake.ensures.wakes c.now-second.ensures c.is_time-is_anew.ensures t.2 in
    rw p.1 (λ is_open. stopped_writing _ _ _ _ _ _ _ _ _ _ (next is_open) (λ before_lines first was. subst (λ (l : List ℕ). WritesPrefix (before_lines ++ l) first (g.K.Sink.held c.write_lines.new.out)) same (c.in_err-is_cut.ensures.err before_lines first was)))

pub returns-clause-ok : goal.returns-clause-ok
returns-clause-ok g c =
    let t = c.in_ok-what.ensures.takes in
    let same : c.deref.result.now ≡ t.0 = c.deref.ensures.value ∙ t.1 ∙ ap (λ (x : List ℕ). x ++ t.0) c.new-text.ensures.items in
    let next = λ (is_open : Bool). turned (is_some c.args.next_try) c.is_time-is_anew.result _ _ _ _ _ _ _ _ _ _ (g.C.Clock.moments c.args.clock.now) (g.C.Clock.moments c.now-second.new.self) c.now-second.result c.args.progress.second is_open c.in_ok-wake.wake t.0 c.in_ok-what.what c.in_ok-wake.ensures.wakes c.now-second.ensures c.is_time-is_anew.ensures t.2 in
    rw c.end_in-ended.ensures (λ is_open. advanced_once _ _ _ _ _ _ _ _ _ _ _ (next is_open) (λ before_lines first was. subst (λ (l : List ℕ). Wrote c.in_ok-is_cut.is_cut (before_lines ++ l) first (g.K.Sink.held c.write_lines.new.out)) same (c.in_ok-is_cut.ensures.ok before_lines first was)) c.count_notice.ensures)
