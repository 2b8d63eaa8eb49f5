use Rattle.std.proofs.Common.{Some, sym, ap, ◌∙◌}
use Rattle.dns_name.specs.Join.{parent_of}
use Rattle.dns_name.proofs.WireLemmas.{IsWire-octets, labels_in-octets}
use Rattle.dns_name.proofs.name.Name.parent.Goals as goal

pub from_wire-requires : goal.from_wire-requires
from_wire-requires c = IsWire-octets _ _ (c.in_ok-wire-in-Some.ensures.items ∙ c.octets.ensures.octets) c.octets.ensures.name

pub returns-in_ok-wire-in-Some-clause-parent : goal.returns-in_ok-wire-in-Some-clause-parent
returns-in_ok-wire-in-Some-clause-parent c =
    ap Some (c.from_wire.ensures ∙ labels_in-octets _ _ (c.in_ok-wire-in-Some.ensures.items ∙ c.octets.ensures.octets) c.octets.ensures.name)
    ∙ sym (ap parent_of (sym c.labels-labels.ensures.labels ∙ c.in-Some.ensures.next))
