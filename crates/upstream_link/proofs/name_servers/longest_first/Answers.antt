use Rattle.upstream_link.proofs.ServerLemmas.{all_above}
use Rattle.upstream_link.proofs.name_servers.longest_first.Goals as goal

pub returns : goal.returns
returns c = all_above c.args.name.now c.loop.current c.loop.names c.loop.counter c.label_count-end.result c.loop.invariant.0 c.label_count-end.ensures.count c.loop-test.false c.loop.invariant.1
