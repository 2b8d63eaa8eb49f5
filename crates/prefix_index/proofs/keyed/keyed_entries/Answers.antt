use Rattle.std.proofs.Common.{[], ◌∷◌, ◌++◌, ap, ◌∙◌, arith}
use Rattle.prefix_index.specs.Made.{keyed_by}
use Rattle.prefix_index.proofs.Keying.{keyed_more}
use Rattle.prefix_index.proofs.keyed.keyed_entries.Goals as goal

pub loop-entry-preserved : goal.loop-entry-preserved
loop-entry-preserved g c =
    let from = g.K.Key.from in
    let x = c.entry-item.result in
    (c.in_ok-push_keyed.ensures.all ∙ ap (λ es. es ++ keyed_by from (x ∷ [])) c.loop-entry.invariant.0 ∙ keyed_more from c.args.entries.now c.loop-entry.entry-index x (omega (arith, c.loop-entry-test.true)) c.entry-item.is, c.in_ok-push_keyed.ensures.keys)
