use Rattle.std.proofs.Common.{rules, ◌∙◌, ap, subst, sym}
use Rattle.std.proofs.lemmas.Fn.{always_returns_same}
use Rattle.std.specs.List.Sorted.{IsStrictlySortedBy}
use Rattle.dns_name.specs.Order.{canonical_order}
use Rattle.upstream_link.specs.Chain.{has_name}
use Rattle.upstream_link.proofs.Searches.{search_tells}
use Rattle.upstream_link.proofs.addresses.is_in.Goals as goal

pub returns : goal.returns
returns c o =
    c.is_ok.ensures.value
    ∙ search_tells c.as_slice.result.now c.args.name.now c.binary_search_by.result (subst (λ names. IsStrictlySortedBy canonical_order names) (sym c.as_slice.ensures) o.sorted) c.binary_search_by.ensures.bound (c.binary_search_by.ensures.position (λ y. canonical_order y c.args.name.now) (always_returns_same _ _ _ (λ a r g h. search rules)))
    ∙ ap (λ names. has_name names c.args.name.now) c.as_slice.ensures
