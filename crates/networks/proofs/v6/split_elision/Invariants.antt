use Rattle.std.proofs.Common.{◌≡◌, ◌-◌, ◌≤◌, take, drop, length}
use Rattle.std.specs.Option.{option_map}
use Rattle.networks.specs.V6.{at_elision}
use Rattle.networks.proofs.ElisionLemmas.{with_front}
use Rattle.networks.proofs.v6.split_elision.Given as goal

abbrev pub invariant-loop-at : goal.invariant-loop-at
invariant-loop-at l = record {
  so_far : at_elision l.text ≡ option_map (with_front (take l.at l.text)) (at_elision (drop l.at l.text));
  within : l.at ≤ length l.text;
}

abbrev pub decreases-loop-at : goal.decreases-loop-at
decreases-loop-at l = length l.text - l.at
