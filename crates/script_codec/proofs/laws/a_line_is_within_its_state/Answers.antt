use Rattle.script_codec.proofs.LineBounds.{line_within}
use Rattle.script_codec.proofs.laws.a_line_is_within_its_state.Goals as goal

pub returns : goal.returns
returns c = line_within
