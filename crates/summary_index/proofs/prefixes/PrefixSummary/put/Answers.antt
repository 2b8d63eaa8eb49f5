use Rattle.std.proofs.Common.{◌≡◌, ap, sym, subst, ◌∙◌}
use Rattle.std.specs.List.Sorted.{IsStrictlySortedBy}
use Rattle.std.specs.Map.{keys_of}
use Rattle.ip_prefix.specs.Prefix.{prefix_order}
use Rattle.prefix_index.proofs.Order.{prefix_order_total}
use Rattle.summary_index.specs.Summary.{zones_at}
use Rattle.summary_index.proofs.Putting.{put_elsewhere, put_here}
use Rattle.summary_index.proofs.prefixes.PrefixSummary.put.Goals as goal

pub returns-clause-here : goal.returns-clause-here
returns-clause-here c =
    let same : c.self.inside.trie ≡ c.args.self.triggers = ap (λ s. s.triggers) c.self.view_is in
    ap (zones_at prefix_order c.args.prefix.now) c.in_ok-trie.ensures
    ∙ put_here prefix_order_total c.args.prefix.now c.args.zones c.self.inside.trie (subst (λ es. IsStrictlySortedBy prefix_order (keys_of es)) (sym same) c.in_order.ensures)

pub returns-clause-elsewhere : goal.returns-clause-elsewhere
returns-clause-elsewhere c = λ p apart.
    ap (zones_at prefix_order p) c.in_ok-trie.ensures
    ∙ put_elsewhere prefix_order_total p c.args.prefix.now c.args.zones c.self.inside.trie apart
    ∙ ap (λ s. zones_at prefix_order p s.triggers) c.self.view_is
