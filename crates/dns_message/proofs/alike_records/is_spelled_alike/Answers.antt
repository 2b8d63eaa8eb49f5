use Rattle.std.proofs.Common.{sym, ◌∙◌}
use Rattle.dns_message.proofs.AlikeLemmas.{same_name_by}
use Rattle.dns_message.proofs.alike_records.is_spelled_alike.Goals as goal

pub returns : goal.returns
returns c same =
    same_name_by c.octets.result.now c.octets-2.result.now c.args.name.now c.args.other.now c.octets.ensures.octets c.octets.ensures.name c.octets-2.ensures.octets c.octets-2.ensures.name (sym c.eq.ensures ∙ same)
