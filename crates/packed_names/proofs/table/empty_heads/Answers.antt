use Rattle.std.proofs.Common.{◌∙◌}
use Rattle.packed_names.proofs.TableLemmas.{table_headed}
use Rattle.packed_names.proofs.table.empty_heads.Goals as goal

pub returns : goal.returns
returns c = λ key heads suffixes t is.
    table_headed key heads c.in_ok-vec.field-0.items suffixes c.in-Ok.count 2048 t (c.in-Ok.ensures.1 ∙ is) (c.in_ok-vec.ensures.items_if_clones_equal (λ y e. e))
