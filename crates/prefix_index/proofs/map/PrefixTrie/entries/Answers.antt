use Rattle.std.proofs.Common.{◌≤◌, rules, sym, ◌∙◌, subst}
use Rattle.std.proofs.lemmas.List.Sorted.{answers_always, ranks_by}
use Rattle.std.specs.List.{AllByRecursion}
use Rattle.std.specs.List.Sorted.{IsPermutation}
use Rattle.std.specs.Ordering.{is_lt}
use Rattle.ip_prefix.specs.Prefix.{prefix_order}
use Rattle.prefix_index.proofs.Order.{prefix_order_total}
use Rattle.prefix_index.proofs.Sorted.{joined, sorted_entries}
use Rattle.prefix_index.proofs.map.PrefixTrie.entries.Goals as goal

pub push_prefixes-requires : goal.push_prefixes-requires
push_prefixes-requires g c = subst (λ es. AllByRecursion (λ e. 1 ≤ e.0.len) es) (sym (c.deref.ensures.value ∙ c.in_ok-four.ensures.ok)) c.self.invariant.0

pub push_prefixes-requires-2 : goal.push_prefixes-requires-2
push_prefixes-requires-2 g c = subst (λ es. AllByRecursion (λ e. 1 ≤ e.0.len) es) (sym (c.deref-2.ensures.value ∙ c.in_ok-six.ensures.ok)) c.self.invariant.1

pub returns : goal.returns
returns g c =
    let four = c.self.inside.four in
    let six = c.self.inside.six in
    let all = joined four six c.deref.result.now c.deref-2.result.now c.new-entries.result.items c.push_prefixes.new.entries.items c.push_prefixes-2.new.entries.items (c.deref.ensures.value ∙ c.in_ok-four.ensures.ok) (c.deref-2.ensures.value ∙ c.in_ok-six.ensures.ok) c.new-entries.ensures.items c.in_ok-push_prefixes.ensures c.in_ok-push_prefixes-2.ensures in
    let moved = subst (λ es. IsPermutation es c.sort_by.new.self.items) all c.in_ok-sort_by.ensures.permutation in
    let sorted = c.in_ok-sort_by.ensures.sorted (λ x y. is_lt (prefix_order x.0 y.0)) (ranks_by prefix_order_total (λ e. e.0)) (answers_always _ _ _ (λ f a r g k. search rules)) in
    sorted_entries four six c.sort_by.new.self.items c.in_ok-four.ensures.entries.sorted c.in_ok-six.ensures.entries.sorted moved sorted ∙ c.self.view_is
