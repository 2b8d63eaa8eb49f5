use Rattle.std.proofs.Common.{sym, ◌∙◌}
use Rattle.std.specs.Ordering.{ordering_then}
use Rattle.summary_index.proofs.Keys.{entry_order}
use Rattle.summary_index.proofs.merging.key_cmp.Goals as goal

pub returns : goal.returns
returns c =
    c.then.ensures
    ∙ (λ i. ordering_then (c.cmp.ensures i) (c.cmp-2.ensures i))
    ∙ sym (entry_order c.args.a.now.key.now c.args.b.now.key.now c.args.a.now.wild c.args.b.now.wild)
