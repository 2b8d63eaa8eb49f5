use Rattle.zone_index.proofs.indexed.IndexedRows.of.Goals as goal

pub invariant_of-result : goal.invariant_of-result
invariant_of-result c = record { stored = c.requires.stored; distinct = c.requires.distinct; index = c.in_ok-index.ensures }
