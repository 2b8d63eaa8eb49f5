use Rattle.std.proofs.Common.{◌≡◌, ◌+◌, ◌-◌, ◌≤◌, ◌++◌, length, take, Ok, refl, sym, ap, ◌∙◌, arith}
use Rattle.dns_name.specs.Labels.{name_octets}
use Rattle.dns_name.proofs.WireLemmas.{IsWire-octets, labels_in-octets}
use Rattle.dns_name.proofs.PartLemmas.{front_octets, octets-append, joined_len, IsName-append, joined_short}
use Rattle.dns_name.proofs.name.Name.join.Goals as goal
use Rattle.dns_name.proofs.name.Name.join.Goals.{In_ok-extend_from_slice-2}

written : (c : In_ok-extend_from_slice-2) → c.extend_from_slice-2.new.self.items ≡ name_octets (c.args.front.now ++ c.args.back.now)
written c =
    rw (c.in_ok-extend_from_slice-2.ensures.items, c.in_ok-extend_from_slice.ensures.items, c.in_ok-wire.ensures.items, c.octets-front.ensures.octets, c.octets-back.ensures.octets, front_octets c.args.front.now _ refl) (sym (octets-append c.args.front.now c.args.back.now))

-- the length that is tested
total : (c : In_ok-extend_from_slice-2) → length (take (length c.octets-front.result.now - 1) c.octets-front.result.now) + length c.octets-back.result.now ≡ length (name_octets (c.args.front.now ++ c.args.back.now))
total c = joined_len c.args.front.now c.args.back.now c.octets-front.result.now c.octets-back.result.now c.octets-front.ensures.octets c.octets-back.ensures.octets

pub from_wire-requires : goal.from_wire-requires
from_wire-requires c = IsWire-octets _ _ (written c) (IsName-append c.args.front.now c.args.back.now c.octets-front.ensures.name c.octets-back.ensures.name (omega (arith, total c)))

pub returns-clause-exact : goal.returns-clause-exact
returns-clause-exact c =
    let at = (goal.at.returns-clause-exact c).In_ok-extend_from_slice-2 in
    let short : length (name_octets (c.args.front.now ++ c.args.back.now)) ≤ 255 = omega (arith, total at) in
    let name = IsName-append c.args.front.now c.args.back.now c.octets-front.ensures.name c.octets-back.ensures.name short in
    joined_short c.args.front.now c.args.back.now short ∙ ap Ok (sym (c.from_wire.ensures ∙ labels_in-octets _ _ (written at) name))
