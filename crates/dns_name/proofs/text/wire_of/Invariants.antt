use Rattle.std.proofs.Common.{◌≡◌, map}
use Rattle.std.specs.List.{flat_map}
use Rattle.dns_name.specs.Labels.{label_octets}
use Rattle.dns_name.proofs.text.wire_of.Given as goal

abbrev pub invariant-loop-label : goal.invariant-loop-label
invariant-loop-label l = record {
  can : (goal.iterator-loop-label).can_next l.label-iterator;
  finite : (goal.iterator-loop-label).is_finite l.label-iterator;
  wire : l.wire.items ≡ flat_map label_octets (map (λ x. x.now) l.yielded);
}
