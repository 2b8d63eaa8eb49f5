use Rattle.std.proofs.Common.{◌≡◌, ℕ, List, ◌++◌, length, refl, ap, ◌∙◌}
use Rattle.std.proofs.lemmas.Result.{on_ok_weaker}
use Rattle.packed_names.specs.Places.{pointer_octets}
use Rattle.dns_record.specs.Number.{number_octets}
use Rattle.dns_message.specs.Compressed.{field_octets}
use Rattle.dns_message.proofs.Drafts.{lead_pointed, lead_places}
use Rattle.dns_message.proofs.compressed_data.write_lead.Goals as goal

pub returns-in-Some-clause-octets : goal.returns-in-Some-clause-octets
returns-in-Some-clause-octets c =
    let fields = number_octets 2 c.rtype.result ++ number_octets 2 c.class.result ++ number_octets 4 c.ttl.result ++ number_octets 2 c.args.len in
    let fields_are : fields ≡ field_octets c.args.rr.now c.args.len = rw (c.rtype.ensures, c.class.ensures, c.ttl.ensures) refl in
    on_ok_weaker c.append.result
    (λ e. lead_pointed c.args.out.now c.append.new.self fields c.octets-octets.result.now (pointer_octets c.in-Some.offset) c.args.places.now c.args.rr.now c.owner-owner.result c.args.len c.octets-octets.ensures.octets c.octets-octets.ensures.name c.owner-owner.ensures
    c.in-Some.ensures.octets fields_are (e ∙ ap (λ (l : List ℕ). c.args.out.now ++ l) c.pointed_fields.ensures))
    c.append.ensures.ok

pub returns-in-Some-clause-places : goal.returns-in-Some-clause-places
returns-in-Some-clause-places c =
    on_ok_weaker c.append.result
    (λ e. lead_places c.args.out.now c.octets-octets.result.now c.args.places.now c.args.rr.now c.owner-owner.result c.octets-octets.ensures.octets c.octets-octets.ensures.name c.owner-owner.ensures (c.in-Some.ensures.places (length c.args.out.now)))
    c.append.ensures.ok
