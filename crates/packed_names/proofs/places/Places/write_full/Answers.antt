use Rattle.dns_name.proofs.WireLemmas.{IsWire-octets, labels_in-octets}
use Rattle.packed_names.proofs.places.Places.write_full.Goals as goal

pub write_in_full-requires-clause-wire : goal.write_in_full-requires-clause-wire
write_in_full-requires-clause-wire c = IsWire-octets c.octets-octets.result.now c.args.name.now c.octets-octets.ensures.octets c.octets-octets.ensures.name

pub returns-in-Ok-clause-places : goal.returns-in-Ok-clause-places
returns-in-Ok-clause-places c =
    let e = labels_in-octets c.octets-octets.result.now c.args.name.now c.octets-octets.ensures.octets c.octets-octets.ensures.name in
    rw (← c.self.view_is, ← e) c.in-Ok.ensures.places
