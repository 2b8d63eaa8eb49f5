use Rattle.std.proofs.Common.{List, [], ◌∷◌, ◌++◌, ap, ◌∙◌}
use Rattle.dns_record.specs.Row.{PlainRow}
use Rattle.zone_rows.proofs.StoredRows.{AreParts, plain_more, stored_more}
use Rattle.zone_rows.proofs.rows.Rows.push_ref.Goals as goal

pub invariant_of-self-2 : goal.invariant_of-self-2
invariant_of-self-2 c =
    let parts : AreParts c.owner.result.now c.rtype.result c.ttl.result c.rdata.result.now c.args.row.now =
    record {
      owner_is = c.owner.ensures.owner;
      rtype_is = c.rtype.ensures;
      ttl_is = c.ttl.ensures;
      rdata_is = c.rdata.ensures.rdata;
      is_row = c.owner.ensures.is_row;
    } in
    stored_more c.self.inside.list c.push.new.self c.owner.result.now c.rtype.result c.ttl.result c.rdata.result.now c.args.row.now c.in_ok-push.ensures.ok parts c.self.invariant

pub returns-clause-ok : goal.returns-clause-ok
returns-clause-ok c =
    let parts : AreParts c.owner.result.now c.rtype.result c.ttl.result c.rdata.result.now c.args.row.now =
    record {
      owner_is = c.owner.ensures.owner;
      rtype_is = c.rtype.ensures;
      ttl_is = c.ttl.ensures;
      rdata_is = c.rdata.ensures.rdata;
      is_row = c.owner.ensures.is_row;
    } in
    plain_more c.self.inside.list c.push.new.self c.owner.result.now c.rtype.result c.ttl.result c.rdata.result.now c.args.row.now c.in_ok-push.ensures.ok parts
    ∙ ap (λ (rows : List PlainRow). rows ++ c.args.row.now ∷ []) c.self.view_is
