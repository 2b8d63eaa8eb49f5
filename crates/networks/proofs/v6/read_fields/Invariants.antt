use Rattle.std.proofs.Common.{◌≡◌, ℕ, List, Option, length}
use Rattle.std.specs.Option.{option_and_then}
use Rattle.networks.specs.Groups.{AreFew, no_groups, with_groups}
use Rattle.networks.specs.V6.{text_groups}
use Rattle.networks.proofs.v6.read_fields.Given as goal

abbrev pub invariant-loop-field : goal.invariant-loop-field
invariant-loop-field l = record {
  reads : (last_groups : List ℕ → Option (List ℕ)) → option_and_then (with_groups no_groups) (text_groups last_groups l.text) ≡ option_and_then (with_groups l.groups) (text_groups last_groups l.rest);
  few : AreFew l.groups;
}

abbrev pub decreases-loop-field : goal.decreases-loop-field
decreases-loop-field l = length l.rest
