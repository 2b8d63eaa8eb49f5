use Rattle.std.proofs.Common.{◌≡◌, length, take, drop, refl, ap, ◌∙◌, arith}
use Rattle.dns_name.specs.Labels.{IsName, name_octets}
use Rattle.dns_name.proofs.WireLemmas.{IsWire-octets, labels_in-octets}
use Rattle.dns_name.proofs.PartLemmas.{taken_octets, no_more_left, IsName-take}
use Rattle.dns_name.proofs.name.Name.section.Goals as goal
use Rattle.dns_name.proofs.name.Name.section.Goals.{In_ok-push}

pub overflow_sub-len : goal.overflow_sub-len
overflow_sub-len c = omega (arith, ap length c.octets-after.ensures.octets, ap length c.octets-rest.ensures.octets, ap (λ name. length (name_octets name)) c.skip-2.ensures, no_more_left c.skip.new.self c.args.count)

written : (c : In_ok-push) → c.push.new.self.items ≡ name_octets (take c.args.count c.skip.new.self)
written c =
    rw (c.in_ok-push.ensures.items, c.in_ok-extend_from_slice.ensures.items, c.in_ok-wire.ensures.items, c.octets-rest.ensures.octets, c.octets-after.ensures.octets, c.skip-2.ensures, taken_octets c.skip.new.self c.args.count _ refl) refl

is_name : (c : In_ok-push) → IsName (take c.args.count c.skip.new.self)
is_name c = IsName-take c.skip.new.self c.args.count c.octets-rest.ensures.name

pub from_wire-requires : goal.from_wire-requires
from_wire-requires c = IsWire-octets _ _ (written c) (is_name c)

pub returns-clause-labels : goal.returns-clause-labels
returns-clause-labels c =
    let at = (goal.at.returns-clause-labels c).In_ok-push in
    c.from_wire.ensures ∙ labels_in-octets _ _ (written at) (is_name at) ∙ ap (take c.args.count) (c.skip.ensures ∙ ap (drop c.args.from) c.labels-labels.ensures.labels)
