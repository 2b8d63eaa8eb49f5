use Rattle.std.proofs.Common.{length, ap, ◌∙◌, arith, rules}
use Rattle.std.proofs.lemmas.Cmp.{nat_list_cmp_total}
use Rattle.std.proofs.lemmas.List.Sorted.{answers_always, ranks_by}
use Rattle.std.specs.List.{sum_by}
use Rattle.packed_lists.specs.Cut.{keys_cut}
use Rattle.packed_lists.specs.Keyed.{numbers_with}
use Rattle.packed_lists.specs.declared.mark.Mark.{Mark}
use Rattle.packed_lists.proofs.Sorting.{in_order, numbers_kept, precedes}
use Rattle.packed_lists.proofs.key_list.KeyList.sorted.Goals as goal

pub cut-requires : goal.cut-requires
cut-requires c = omega (arith, ap (sum_by (λ (m : Mark). m.len)) c.deref-2.ensures.value, c.self.invariant, ap length c.deref.ensures.value)

pub returns-clause-order : goal.returns-clause-order
returns-clause-order c = in_order c.sort_by.new.self.items (c.in_ok-sort_by.ensures.sorted precedes (ranks_by nat_list_cmp_total (λ k. k.key.now)) (answers_always _ _ _ (λ f a r g k. search rules)))

pub returns-clause-numbers : goal.returns-clause-numbers
returns-clause-numbers c = λ key.
    numbers_kept key c.in_ok-keys.keys.items c.sort_by.new.self.items (c.in_ok-sort_by.ensures.stable precedes (ranks_by nat_list_cmp_total (λ k. k.key.now)) (answers_always _ _ _ (λ f a r g k. search rules)))
    ∙ ap (numbers_with key) (c.in_ok-keys.ensures ∙ (λ i. keys_cut (c.deref-2.ensures.value i) (c.deref.ensures.value i)) ∙ c.self.view_is)
