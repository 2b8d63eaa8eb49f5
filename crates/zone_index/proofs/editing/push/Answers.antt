use Rattle.std.proofs.Common.{ap, ◌∙◌}
use Rattle.dns_name.specs.Labels.{name_octets}
use Rattle.zone_rows.proofs.StoredRows.{AreParts, stored_more}
use Rattle.zone_index.proofs.editing.push.Goals as goal

pub returns-clause-stored : goal.returns-clause-stored
returns-clause-stored c =
    let parts : AreParts c.octets.result.now c.rtype.result c.ttl.result c.rdata.result.now c.args.row.now = record {
      owner_is = c.octets.ensures.octets ∙ ap name_octets c.owner.ensures.owner;
      rtype_is = c.rtype.ensures;
      ttl_is = c.ttl.ensures;
      rdata_is = c.rdata.ensures.rdata;
      is_row = c.owner.ensures.is_row;
    } in
    stored_more c.args.rows.now c.push.new.self c.octets.result.now c.rtype.result c.ttl.result c.rdata.result.now c.args.row.now c.in_ok-number.ensures.ok parts
