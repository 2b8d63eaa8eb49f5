use Rattle.std.proofs.Common.{sym, ◌∙◌}
use Rattle.packed_names.proofs.TableLemmas.{skips_next}
use Rattle.packed_names.proofs.table.left_before.Goals as goal

pub returns-then-bucket : goal.returns-then-bucket
returns-then-bucket c = skips_next c.args.key c.args.heads.now c.args.suffixes.now _ c.args.at c.args.hash c.from.result c.requires.table c.requires.inside c.from.ensures (sym c.bucket.ensures ∙ c.if-bucket.true ∙ c.bucket-2.ensures)
