use Rattle.std.proofs.Common.{◌≡◌, List, [], ℕ, ◌++◌, ◌∙◌, ap, subst, inr}
use Rattle.std.proofs.lemmas.Result.{err_from_is_err_and}
use Rattle.edge_io.specs.Edge.{WritesPrefix}
use Rattle.rpz_program.specs.Serving.{Wrote}
use Rattle.rpz_program.proofs.Outputs.{wrote_none}
use Rattle.rpz_program.proofs.serving.order_first.Goals as goal

pub returns-in_err-is_cut-clause-err : goal.returns-in_err-is_cut-clause-err
returns-in_err-is_cut-clause-err g c =
    let p = err_from_is_err_and c.from_residual-in_err-is_cut.result c.from_residual-in_err-is_cut.ensures.1 in
    let o = c.in_ok-order_due.ensures.orders in
    let held = g.K.Sink.held c.args.out.now in
    let same : c.deref.result.now ≡ o.0 = c.deref.ensures.value ∙ o.1 ∙ ap (λ (x : List ℕ). x ++ o.0) c.new-text.ensures.items in
    let part = subst (λ (l : List ℕ). WritesPrefix l held (g.K.Sink.held c.write_lines.new.out)) same (c.in_err-is_cut.ensures.err [] held (wrote_none held)) in
    rw p.1 (inr (o.0, _, o.2, part))

pub returns-clause-ok : goal.returns-clause-ok
returns-clause-ok g c =
    let o = c.in_ok-order_due.ensures.orders in
    let held = g.K.Sink.held c.args.out.now in
    let same : c.deref.result.now ≡ o.0 = c.deref.ensures.value ∙ o.1 ∙ ap (λ (x : List ℕ). x ++ o.0) c.new-text.ensures.items in
    record {
      lines = o.0;
      orders = o.2;
      notices = c.new.ensures.notices;
      second_is = c.new.ensures.second;
      wrote = subst (λ (l : List ℕ). Wrote c.in_ok-is_cut.is_cut l held (g.K.Sink.held c.write_lines.new.out)) same (c.in_ok-is_cut.ensures.ok [] held (wrote_none held));
    }
