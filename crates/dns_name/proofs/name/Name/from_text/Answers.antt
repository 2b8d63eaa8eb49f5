use Rattle.std.proofs.Common.{Ok, sym, ap, ◌∙◌}
use Rattle.dns_name.specs.Text.{split_at_dots}
use Rattle.dns_name.proofs.WireLemmas.{IsWire-octets, labels_in-octets}
use Rattle.dns_name.proofs.name.Name.from_text.Goals as goal

pub from_wire-requires : goal.from_wire-requires
from_wire-requires c = IsWire-octets c.in_ok-wire.wire.items (split_at_dots c.in_ok-labels.labels.now) c.in_ok-wire.ensures c.in_ok-labels.ensures.name

pub returns-clause-exact : goal.returns-clause-exact
returns-clause-exact c =
    c.in_ok-labels.ensures.exact ∙ ap Ok (sym (c.from_wire.ensures ∙ labels_in-octets c.in_ok-wire.wire.items (split_at_dots c.in_ok-labels.labels.now) c.in_ok-wire.ensures c.in_ok-labels.ensures.name))
