use Rattle.std.proofs.Common.{sym, ap, ◌∙◌}
use Rattle.dns_message.specs.Compressed.{has_compressed_names}
use Rattle.dns_message.proofs.AlikeLemmas.{alike_record}
use Rattle.dns_message.proofs.alike_records.is_alike.Goals as goal

pub returns-then-not-has_compressed_names : goal.returns-then-not-has_compressed_names
returns-then-not-has_compressed_names c same =
    alike_record c.args.rr.now c.args.owner.now (sym c.owner.ensures ∙ c.is_spelled_alike.ensures same) (sym (c.has_compressed_names.ensures ∙ ap has_compressed_names c.rtype.ensures) ∙ c.if-not-has_compressed_names.true)
