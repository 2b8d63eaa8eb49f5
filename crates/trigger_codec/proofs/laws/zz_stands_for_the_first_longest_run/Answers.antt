use Rattle.trigger_codec.proofs.LongestLaw.{first_longest_is_zz}
use Rattle.trigger_codec.proofs.laws.zz_stands_for_the_first_longest_run.Goals as goal

pub returns : goal.returns
returns c = first_longest_is_zz
