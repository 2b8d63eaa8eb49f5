use Rattle.dns_name.specs.Wire.{labels_in}
use Rattle.dns_message.proofs.AlikeLemmas.{pointed_if_known}
use Rattle.dns_message.proofs.alike_records.known_owner.Goals as goal

pub returns-clause-pointed : goal.returns-clause-pointed
returns-clause-pointed c =
    pointed_if_known c.known.result c.args.places.now (labels_in c.in_ok-alike_owner.field-0.now) c.args.records.now c.known.ensures.octets c.known.ensures.places c.in_ok-alike_owner.ensures.alike
