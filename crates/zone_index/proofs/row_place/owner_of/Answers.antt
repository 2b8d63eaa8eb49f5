use Rattle.zone_index.proofs.Owners.{no_fault, owner_read}
use Rattle.zone_index.proofs.row_place.owner_of.Goals as goal

pub unreachable-requires : goal.unreachable-requires
unreachable-requires c =
    no_fault c.a_name_is_read_where_it_stands.ensures.written c.args.row.now.owner c.owner.ensures.is_row.is_owner c.owner.result.now c.owner.ensures.owner
    c.in-Err-Fault.field-0 c.in-Err-Fault.field-0-0 c.in-Err-Fault.field-0-is c.in-Err-Fault.ensures.exact

pub returns-in-Ok-clause-owner : goal.returns-in-Ok-clause-owner
returns-in-Ok-clause-owner c =
    owner_read c.a_name_is_read_where_it_stands.ensures.written c.args.row.now.owner c.owner.ensures.is_row.is_owner c.owner.result.now c.owner.ensures.owner
    (c.in-Ok.owner, c.in-Ok.field-0-1) c.in-Ok.ensures.exact
