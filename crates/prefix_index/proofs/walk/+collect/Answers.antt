use Rattle.prefix_index.proofs.Walking.{collect_none}
use Rattle.prefix_index.proofs.walk.+collect.Goals as goal

pub returns-then-at-eq0 : goal.returns-then-at-eq0
returns-then-at-eq0 g t c = collect_none g.K.Key.keys g.met.K.Key.laws _ c.args.at _ c.if-at-eq0.true
