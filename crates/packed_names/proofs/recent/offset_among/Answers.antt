use Rattle.dns_name.specs.Wire.{labels_in}
use Rattle.packed_names.proofs.RecentLemmas.{Searching-start, Searching-found, Searching-next, Searching-end}
use Rattle.packed_names.proofs.recent.offset_among.Goals as goal

pub loop-name-init : goal.loop-name-init
loop-name-init c = Searching-start c.args.names.now (labels_in c.args.octets.now)

pub returns-in-Some-clause-place : goal.returns-in-Some-clause-place
returns-in-Some-clause-place c = Searching-found c.args.names.now _ c.loop-name.name-index (labels_in c.args.octets.now) c.in-Some.offset c.loop-name.invariant c.loop-name-test.true c.in-Some.ensures.place

pub loop-name-preserved : goal.loop-name-preserved
loop-name-preserved c = Searching-next c.args.names.now _ c.loop-name.name-index (labels_in c.args.octets.now) c.loop-name.invariant c.loop-name-test.true c.in_default.ensures.place

pub returns-clause-place : goal.returns-clause-place
returns-clause-place c = Searching-end c.args.names.now c.loop-name.name-index (labels_in c.args.octets.now) c.loop-name.invariant c.loop-name-test.false
