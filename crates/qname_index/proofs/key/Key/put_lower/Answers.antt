use Rattle.std.proofs.Common.{map, ap, ◌∙◌}
use Rattle.std.specs.Char.{to_ascii_lowercase}
use Rattle.qname_index.proofs.Lowering.{key_lowered, lowered_is_short}
use Rattle.qname_index.proofs.key.Key.put_lower.Goals as goal

pub returns-clause-key : goal.returns-clause-key
returns-clause-key c =
    c.make_lower.ensures ∙ ap (map to_ascii_lowercase) c.put.ensures.key ∙ key_lowered c.args.name.now c.put.ensures.name

pub returns-clause-short : goal.returns-clause-short
returns-clause-short c = lowered_is_short c.args.name.now c.put.ensures.name
