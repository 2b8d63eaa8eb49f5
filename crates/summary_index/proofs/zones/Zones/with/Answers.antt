use Rattle.std.proofs.Common.{ℕ, ◌==◌, ◌||◌, ap, ◌∙◌, arith}
use lib.Bits.{or_lt}
use Rattle.summary_index.specs.Zones.{has_zone}
use Rattle.summary_index.proofs.Bits.{with_zone}
use Rattle.summary_index.proofs.zones.Zones.with.Goals as goal

pub returns : goal.returns
returns c = λ n low.
    with_zone c.self.inside.mask c.args.number n c.requires.some c.requires.within low
    ∙ ap (λ (mask : ℕ). (n == c.args.number) || has_zone mask n) c.self.view_is

pub invariant_of-result : goal.invariant_of-result
invariant_of-result c = or_lt 64 c.self.inside.mask _ c.self.invariant (omega arith)
