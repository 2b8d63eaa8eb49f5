use Rattle.packed_names.specs.Table.{suffix_places}
use Rattle.packed_names.proofs.InsertingLemmas.{InsertingNames}
use Rattle.packed_names.proofs.compress.insert_names.Given as goal

abbrev pub invariant-loop-name : goal.invariant-loop-name
invariant-loop-name l = InsertingNames l.key (suffix_places l.fn.suffixes.items) l.names l.heads.items l.suffixes.items l.name-index
