use Rattle.packed_names.specs.Table.{suffix_places}
use Rattle.packed_names.proofs.InsertingLemmas.{InsertingNames-next, InsertingNames-end}
use Rattle.packed_names.proofs.compress.insert_names.Goals as goal

pub loop-name-preserved : goal.loop-name-preserved
loop-name-preserved c =
    InsertingNames-next c.args.key (suffix_places c.args.suffixes.now.items) c.args.names.now _ c.loop-name.heads.items c.insert_written.new.heads.items c.loop-name.suffixes.items c.insert_written.new.suffixes.items c.loop-name.name-index c.from-start.result c.from-end.result c.loop-name.invariant c.loop-name-test.true c.in_ok-insert_written.ensures.table c.from-start.ensures c.from-end.ensures c.in_ok-insert_written.ensures.places

pub returns-clause-places : goal.returns-clause-places
returns-clause-places c =
    InsertingNames-end c.args.key (suffix_places c.args.suffixes.now.items) c.args.names.now c.loop-name.heads.items c.loop-name.suffixes.items c.loop-name.name-index c.loop-name.invariant c.loop-name-test.false
