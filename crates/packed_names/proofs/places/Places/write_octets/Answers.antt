use Rattle.std.proofs.Common.{length}
use Rattle.std.proofs.lemmas.Result.{on_ok_weaker}
use Rattle.packed_names.proofs.CompressLemmas.{root_octets, root_places, wire_root}
use Rattle.packed_names.proofs.places.Places.write_octets.Goals as goal

pub returns-then-octets-lt2-clause-octets : goal.returns-then-octets-lt2-clause-octets
returns-then-octets-lt2-clause-octets c =
    on_ok_weaker c.write_root.result
    (λ e. root_octets c.args.self.now c.args.out.now c.args.octets.now c.write_root.new.out (wire_root c.args.octets.now c.requires c.if-octets-lt2.true) e)
    c.write_root.ensures.octets

pub returns-then-octets-lt2-clause-places : goal.returns-then-octets-lt2-clause-places
returns-then-octets-lt2-clause-places c =
    on_ok_weaker c.write_root.result
    (λ e. root_places c.args.self.now c.write_root.new.self (length c.args.out.now) c.args.octets.now (wire_root c.args.octets.now c.requires c.if-octets-lt2.true) e)
    c.write_root.ensures.places
