use Rattle.std.proofs.Common.{◌≡◌, ◌∙◌, ℕ, ap, subst}
use Rattle.dns_name.specs.Labels.{lowered}
use Rattle.dns_record.specs.Record.{IsData}
use Rattle.dns_record.specs.Row.{PlainRow, IsRow, lowered_data}
use Rattle.dns_record.proofs.LowerCase.{row_is}
use Rattle.dns_record.proofs.row.Row.of.Goals as goal
use Rattle.dns_record.proofs.row.Row.of.Goals.{After-into_vec}

made : (c : After-into_vec) → IsRow (record { owner = c.in_ok-owner.owner; rtype = c.rtype-2.result; ttl = c.ttl.result; rdata = c.into_vec.result.items })
made c =
    let r = c.args.rr.now in
    let row : PlainRow = record { owner = c.in_ok-owner.owner; rtype = c.rtype-2.result; ttl = c.ttl.result; rdata = c.into_vec.result.items } in
    let owner : row.owner ≡ lowered r.owner = c.in_ok-owner.ensures.lowered ∙ ap lowered c.owner.ensures in
    let rdata : row.rdata ≡ lowered_data r.rtype r.rdata = c.into_vec.ensures ∙ (rw (c.rtype.ensures, c.rdata.ensures.rdata) at c.in_ok-rdata.ensures) in
    let data_is : IsData r.rtype 1 r.rdata = subst (λ (class : ℕ). IsData r.rtype class r.rdata) c.requires c.rdata.ensures.is_data in
    row_is r row owner c.rtype-2.ensures rdata c.in_ok-owner.ensures.name c.rtype-2.type_inv c.ttl.type_inv data_is

pub invariant_of-result : goal.invariant_of-result
invariant_of-result c = made c

pub returns-clause-is_row : goal.returns-clause-is_row
returns-clause-is_row c = made (goal.at.returns-clause-is_row c).After-into_vec
