use Rattle.std.proofs.Common.{[]}
use Rattle.packed_names.specs.Recent.{known_after}
use Rattle.packed_names.proofs.RecentLemmas.{Matching-start, Matching-label, Matching-found, Matching-root}
use Rattle.packed_names.proofs.recent.longest_match.Goals as goal

pub loop-count-init : goal.loop-count-init
loop-count-init c = Matching-start (known_after [] c.args.names.now) c.args.octets.now c.requires.wire

pub loop-count-preserved : goal.loop-count-preserved
loop-count-preserved c = Matching-label (known_after [] c.args.names.now) c.args.octets.now c.loop-count.rest.now c.in-Some._count c.in-Some.others.now c.loop-count.invariant c.in-Some.ensures c.in_default-offset_among.ensures.place

pub returns-in-Some-offset_among-clause-count : goal.returns-in-Some-offset_among-clause-count
returns-in-Some-offset_among-clause-count c = (Matching-found (known_after [] c.args.names.now) c.args.octets.now c.loop-count.rest.now c.in-Some._count c.in-Some.others.now c.in-Some-offset_among.offset c.loop-count.invariant c.in-Some.ensures c.in-Some-offset_among.ensures.place).count_is

pub returns-in-Some-offset_among-clause-offset : goal.returns-in-Some-offset_among-clause-offset
returns-in-Some-offset_among-clause-offset c = (Matching-found (known_after [] c.args.names.now) c.args.octets.now c.loop-count.rest.now c.in-Some._count c.in-Some.others.now c.in-Some-offset_among.offset c.loop-count.invariant c.in-Some.ensures c.in-Some-offset_among.ensures.place).offset_is

pub returns-clause-count : goal.returns-clause-count
returns-clause-count c = (Matching-root (known_after [] c.args.names.now) c.args.octets.now c.loop-count.rest.now c.loop-count.invariant c.in_default.ensures).count_is

pub returns-clause-offset : goal.returns-clause-offset
returns-clause-offset c = (Matching-root (known_after [] c.args.names.now) c.args.octets.now c.loop-count.rest.now c.loop-count.invariant c.in_default.ensures).offset_is
