use Rattle.std.proofs.Common.{◌∙◌, ◌||◌, bit_or}
use lib.Bits.{or_lt}
use Rattle.summary_index.specs.Zones.{has_zone}
use Rattle.summary_index.proofs.Bits.{zones_of_both}
use Rattle.summary_index.proofs.zones.ZonesNumberSet.union.Goals as goal

pub returns : goal.returns
returns c = record {
  union = λ n.
      zones_of_both c.self.inside.mask c.other.inside.mask n
      ∙ (λ i. has_zone (c.self.view_is i) n || has_zone (c.other.view_is i) n);
  mask = (λ i. bit_or (c.self.view_is i) (c.other.view_is i));
}

pub invariant_of-result : goal.invariant_of-result
invariant_of-result c = or_lt 64 c.self.inside.mask c.other.inside.mask c.self.invariant c.other.invariant
