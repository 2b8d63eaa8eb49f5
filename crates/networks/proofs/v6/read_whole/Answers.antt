use Rattle.std.proofs.Common.{ap, ◌∙◌}
use Rattle.std.specs.Option.{option_and_then}
use Rattle.networks.specs.Groups.{whole_number}
use Rattle.networks.specs.V6.{one_or_two_groups, text_groups}
use Rattle.networks.proofs.NumberLemmas.{whole_is}
use Rattle.networks.proofs.v6.read_whole.Goals as goal

pub returns-in_err-groups : goal.returns-in_err-groups
returns-in_err-groups c = c.from_residual.ensures ∙ ap (option_and_then whole_number) c.in_err-groups.ensures.value ∙ whole_is (text_groups one_or_two_groups c.args.text.now)

pub returns : goal.returns
returns c = c.whole.ensures ∙ ap (option_and_then whole_number) c.in_ok-groups.ensures.value ∙ whole_is (text_groups one_or_two_groups c.args.text.now)
