use Rattle.packed_names.specs.Table.{suffix_places}
use Rattle.packed_names.proofs.InsertingLemmas.{Inserting-label, Inserting-past, Inserting-root}
use Rattle.packed_names.proofs.compress.insert_written.Goals as goal

pub loop-count-preserved : goal.loop-count-preserved
loop-count-preserved c =
    Inserting-label c.args.key (suffix_places c.args.suffixes.now.items) c.args.octets.now c.args.start c.args.end c.loop-count.heads.items c.find_or_insert.new.heads.items c.loop-count.suffixes.items c.find_or_insert.new.suffixes.items c.loop-count.rest.now c.in-Some.count c.in-Some.others.now c.loop-count.at c.in_ok-_place._place c.loop-count.invariant c.in-Some.ensures c.if-at-end.false c.requires.near c.in_ok-_place.ensures.table c.in_ok-_place.ensures.found

pub returns-then-at-end-clause-places : goal.returns-then-at-end-clause-places
returns-then-at-end-clause-places c =
    Inserting-past c.args.key (suffix_places c.args.suffixes.now.items) c.args.octets.now c.args.start c.args.end c.loop-count.heads.items c.loop-count.suffixes.items c.loop-count.rest.now c.loop-count.at c.loop-count.invariant c.if-at-end.true

pub returns-clause-places : goal.returns-clause-places
returns-clause-places c =
    Inserting-root c.args.key (suffix_places c.args.suffixes.now.items) c.args.octets.now c.args.start c.args.end c.loop-count.heads.items c.loop-count.suffixes.items c.loop-count.rest.now c.loop-count.at c.loop-count.invariant c.in_default.ensures
