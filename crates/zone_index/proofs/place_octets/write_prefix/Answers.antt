use Rattle.std.proofs.Common.{◌++◌, ap, ◌∙◌}
use Rattle.std.proofs.lemmas.Result.{on_ok_weaker}
use Rattle.ip_prefix.specs.Prefix.{family, number_of}
use Rattle.zone_index.specs.PlaceOctets.{number_octets}
use Rattle.zone_index.proofs.InTwoParts.{in_two_parts}
use Rattle.zone_index.proofs.place_octets.write_prefix.Goals as goal

pub returns-clause-octets : goal.returns-clause-octets
returns-clause-octets c = on_ok_weaker c.write_number.result
    (λ rest. in_two_parts c.args.out.now.items c.extend_from_slice.new.self.items c.write_number.new.out.items (number_octets (number_of c.args.prefix.now.addr))
    c.args.kind c.family.result c.length.result (family c.args.prefix.now.addr) c.args.prefix.now.length
    c.in_ok-extend_from_slice.ensures.items
    (rest ∙ ap (λ n. c.extend_from_slice.new.self.items ++ number_octets n) (c.number.ensures ∙ ap number_of c.addr-addr.ensures.addr))
    (c.family.ensures ∙ ap family c.addr-addr.ensures.addr)
    c.length.ensures.length)
    c.write_number.ensures.octets
