use Rattle.std.proofs.Common.{ℕ, ◌==◌, ◌&&◌, not, ap, ◌∙◌}
use Rattle.summary_index.specs.Zones.{has_zone, zones_without}
use Rattle.summary_index.proofs.Bits.{same_mask, without_zone}
use Rattle.summary_index.proofs.zones.Zones.without.Goals as goal

pub returns : goal.returns
returns c = record {
  others = λ n low high.
      without_zone c.self.inside.mask c.args.number n c.requires.some c.requires.within low high
      ∙ ap (λ (mask : ℕ). not (n == c.args.number) && has_zone mask n) c.self.view_is;
  mask = same_mask c.self.inside.mask c.args.number c.requires.some c.requires.within ∙ ap (zones_without c.args.number) c.self.view_is;
}
