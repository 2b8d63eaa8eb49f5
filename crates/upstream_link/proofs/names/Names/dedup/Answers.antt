use Rattle.std.proofs.Common.{rules, ap, ◌∙◌}
use Rattle.std.proofs.lemmas.Fn.{dedup_same}
use Rattle.std.specs.List.{dedup}
use Rattle.std.specs.Ordering.{eq_by_cmp}
use Rattle.dns_name.specs.Order.{canonical_order}
use Rattle.upstream_link.proofs.names.Names.dedup.Goals as goal

pub returns : goal.returns
returns c = dedup_same _ (eq_by_cmp canonical_order) _ (λ x k b t x' k' h. search rules) _ _ c.dedup_by.ensures.filtered ∙ ap (λ names. dedup (eq_by_cmp canonical_order) names) c.self.view_is
