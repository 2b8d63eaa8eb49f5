use Rattle.std.proofs.Common.{ap, ◌∙◌}
use Rattle.dns_name.specs.Labels.{name_octets}
use Rattle.zone_rows.proofs.StoredRows.{AreParts, stored_more}
use Rattle.zone_rows.proofs.rows.Rows.push.Goals as goal

pub invariant_of-self-2 : goal.invariant_of-self-2
invariant_of-self-2 c =
    let parts : AreParts c.octets-owner.result.now c.rtype.result c.ttl.result c.rdata.result.now c.args.row =
    record {
      owner_is = c.octets-owner.ensures.octets ∙ ap name_octets c.owner.ensures.owner;
      rtype_is = c.rtype.ensures;
      ttl_is = c.ttl.ensures;
      rdata_is = c.rdata.ensures.rdata;
      is_row = c.owner.ensures.is_row;
    } in
    stored_more c.self.inside.list c.push.new.self c.octets-owner.result.now c.rtype.result c.ttl.result c.rdata.result.now c.args.row c.in_ok-push.ensures.ok parts c.self.invariant
