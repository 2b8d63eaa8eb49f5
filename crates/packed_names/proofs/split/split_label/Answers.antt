use Rattle.std.proofs.Common.{sym, ◌∙◌, arith}
use Rattle.packed_names.proofs.CompressLemmas.{split_label_none, split_label_room, split_label_whole}
use Rattle.packed_names.proofs.split.split_label.Goals as goal

pub returns-then-len-eq0 : goal.returns-then-len-eq0
returns-then-len-eq0 c = split_label_none c.args.octets.now c.requires (sym c.from-len.ensures ∙ c.if-len-eq0.true)

pub slice_bounds-result-count : goal.slice_bounds-result-count
slice_bounds-result-count c = split_label_room c.args.octets.now c.from-len.result c.requires c.from-len.ensures (omega arith)

pub slice_bounds-result-start : goal.slice_bounds-result-start
slice_bounds-result-start c = split_label_room c.args.octets.now c.from-len.result c.requires c.from-len.ensures (omega arith)

pub returns : goal.returns
returns c = split_label_whole c.args.octets.now c.from-len.result c.requires c.from-len.ensures (omega arith)
