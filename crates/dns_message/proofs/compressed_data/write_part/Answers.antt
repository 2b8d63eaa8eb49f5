use Rattle.std.proofs.Common.{List, ℕ, ◌++◌, length, ap, ◌∙◌}
use Rattle.dns_name.specs.Wire.{labels_in}
use Rattle.dns_message.proofs.DataLoop.{SplitsName, name_octets_are, name_places_are, name_rest_is, splits_name}
use Rattle.dns_message.proofs.compressed_data.write_part.Goals as goal
use Rattle.dns_message.proofs.compressed_data.write_part.Goals.{In_ok-write_octets-in-Name}

split : (c : In_ok-write_octets-in-Name) → SplitsName c.args.rdata.now c.split_name.result.0.now c.split_name.result.1.now
split c = splits_name c.args.part c.requires.0 c.args.rdata.now c.split_name.result.0.now c.split_name.result.1.now c.in-Name.is c.requires.1 c.split_name.ensures.only

pub returns-in_ok-write_octets-in-Name-clause-octets : goal.returns-in_ok-write_octets-in-Name-clause-octets
returns-in_ok-write_octets-in-Name-clause-octets c =
    c.in_ok-write_octets-in-Name.ensures.octets
    ∙ ap (λ (l : List ℕ). c.args.out.now ++ l) (name_octets_are c.args.places.now (length c.args.out.now) c.args.part c.args.rdata.now (labels_in c.split_name.result.0.now) c.in-Name.is (split c).name)

pub returns-in_ok-write_octets-in-Name-clause-places : goal.returns-in_ok-write_octets-in-Name-clause-places
returns-in_ok-write_octets-in-Name-clause-places c =
    c.in_ok-write_octets-in-Name.ensures.places
    ∙ name_places_are c.args.places.now (length c.args.out.now) c.args.part c.args.rdata.now (labels_in c.split_name.result.0.now) c.in-Name.is (split c).name

pub returns-in_ok-write_octets-in-Name-clause-rest : goal.returns-in_ok-write_octets-in-Name-clause-rest
returns-in_ok-write_octets-in-Name-clause-rest c = name_rest_is c.args.part c.args.rdata.now c.split_name.result.1.now c.in-Name.is (split c).others
