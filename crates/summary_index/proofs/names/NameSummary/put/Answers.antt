use Rattle.std.proofs.Common.{◌≡◌, ap, sym, subst, ◌∙◌}
use Rattle.std.specs.List.Sorted.{IsStrictlySortedBy}
use Rattle.std.specs.Map.{keys_of}
use Rattle.qname_index.specs.Best.{pattern_order}
use Rattle.summary_index.specs.Summary.{zones_at}
use Rattle.summary_index.proofs.Putting.{pattern_total, put_elsewhere, put_here}
use Rattle.summary_index.proofs.names.NameSummary.put.Goals as goal

pub returns-clause-here : goal.returns-clause-here
returns-clause-here c =
    let same : c.self.inside.trie ≡ c.args.self.triggers = ap (λ s. s.triggers) c.self.view_is in
    ap (zones_at pattern_order c.args.pattern.now) c.in_ok-trie.ensures
    ∙ put_here pattern_total c.args.pattern.now c.args.zones c.self.inside.trie (subst (λ es. IsStrictlySortedBy pattern_order (keys_of es)) (sym same) c.in_order.ensures.sorted)

pub returns-clause-elsewhere : goal.returns-clause-elsewhere
returns-clause-elsewhere c = λ p apart.
    ap (zones_at pattern_order p) c.in_ok-trie.ensures
    ∙ put_elsewhere pattern_total p c.args.pattern.now c.args.zones c.self.inside.trie apart
    ∙ ap (λ s. zones_at pattern_order p s.triggers) c.self.view_is
