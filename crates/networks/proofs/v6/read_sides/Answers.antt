use Rattle.std.proofs.Common.{◌∙◌, None, Some, refl}
use Rattle.networks.specs.V6.{one_group, one_or_two_groups, side_groups}
use Rattle.networks.proofs.NumberLemmas.{elided_when}
use Rattle.networks.proofs.v6.read_sides.Goals as goal

pub returns-in_err-before : goal.returns-in_err-before
returns-in_err-before c = c.from_residual.ensures ∙ elided_when (side_groups one_group c.args.head.now) (side_groups one_or_two_groups c.args.tail.now) None _ c.in_err-before.ensures.value refl

pub returns-in_err-after : goal.returns-in_err-after
returns-in_err-after c = c.from_residual-in_err-after.ensures ∙ elided_when (side_groups one_group c.args.head.now) (side_groups one_or_two_groups c.args.tail.now) (Some c.in_ok-before.before) None c.in_ok-before.ensures.value c.in_err-after.ensures.value

pub returns : goal.returns
returns c = c.fill.ensures ∙ elided_when (side_groups one_group c.args.head.now) (side_groups one_or_two_groups c.args.tail.now) (Some c.in_ok-before.before) (Some c.in_ok-after.after) c.in_ok-before.ensures.value c.in_ok-after.ensures.value
