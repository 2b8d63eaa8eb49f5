use Rattle.std.proofs.Common.{ap, ◌∙◌}
use Rattle.std.proofs.lemmas.Result.{IfOk-weaker}
use Rattle.prefix_index.proofs.Order.{prefix_order_total}
use Rattle.summary_index.specs.Entries.{entries_without}
use Rattle.summary_index.proofs.WithoutZone.{none_empty, sorted_without, zones_of_left}
use Rattle.summary_index.proofs.prefixes.PrefixSummary.without_zone.Goals as goal

pub returns-clause-sorted : goal.returns-clause-sorted
returns-clause-sorted c =
    IfOk-weaker c.without_zone.result _ _ (λ left e. sorted_without prefix_order_total c.args.number c.args.self.now.triggers left.items c.in_order.ensures
    (e ∙ ap (entries_without c.args.number) (c.deref.ensures.value ∙ c.in_ok-entries.ensures ∙ ap (λ s. s.triggers) c.self.view_is))) c.without_zone.ensures

pub returns-clause-zones : goal.returns-clause-zones
returns-clause-zones c =
    IfOk-weaker c.without_zone.result _ _ (λ left e p n low high. zones_of_left prefix_order_total c.args.number c.args.self.now.triggers left.items c.requires.some c.requires.within c.in_order.ensures
    (e ∙ ap (entries_without c.args.number) (c.deref.ensures.value ∙ c.in_ok-entries.ensures ∙ ap (λ s. s.triggers) c.self.view_is)) p n low high) c.without_zone.ensures

pub returns-clause-left : goal.returns-clause-left
returns-clause-left c =
    IfOk-weaker c.without_zone.result _ _ (λ left e. none_empty c.args.number c.deref.result.now left.items e) c.without_zone.ensures
