use Rattle.std.proofs.Common.{sym, ◌∙◌}
use Rattle.std.specs.Ordering.{ordering_then}
use Rattle.octet_trie.proofs.Orders.{entry_order, is_less}
use Rattle.octet_trie.proofs.order.precedes.Goals as goal

pub returns : goal.returns
returns g c = λ t. entry_order c.args.a.now.key.now c.args.b.now.key.now c.args.a.now.wild c.args.b.now.wild ∙ (λ i. ordering_then (sym c.cmp.ensures i) (sym c.cmp-2.ensures i)) ∙ sym c.then.ensures ∙ is_less c.then.result (sym c.is_lt.ensures ∙ t)
