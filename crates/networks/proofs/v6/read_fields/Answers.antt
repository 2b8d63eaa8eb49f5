use Rattle.std.proofs.Common.{◌∙◌}
use Rattle.networks.proofs.FieldLemmas.{field_more, field_none, field_full}
use Rattle.networks.proofs.v6.read_fields.Goals as goal

pub returns-in_err-group-clause-fields : goal.returns-in_err-group-clause-fields
returns-in_err-group-clause-fields c = λ last. rw c.from_residual.ensures (c.loop-field.invariant.reads last ∙ field_none last c.loop-field.rest.now c.in-Some.field.now c.in-Some.behind.now c.loop-field.groups c.in-Some.ensures.fields c.in_err-group.ensures)

pub returns-in_err-groups-clause-fields : goal.returns-in_err-groups-clause-fields
returns-in_err-groups-clause-fields c = λ last. rw c.from_residual-in_err-groups.ensures (c.loop-field.invariant.reads last ∙ field_full last c.loop-field.rest.now c.in-Some.field.now c.in-Some.behind.now c.loop-field.groups c.in_ok-group.group c.in-Some.ensures.fields c.in_ok-group.ensures c.in_err-groups.ensures.value)

pub loop-field-preserved : goal.loop-field-preserved
loop-field-preserved c = record {
  reads = λ last. c.loop-field.invariant.reads last ∙ field_more last c.loop-field.rest.now c.in-Some.field.now c.in-Some.behind.now c.loop-field.groups c.in_ok-groups.groups c.in_ok-group.group c.in-Some.ensures.fields c.in_ok-group.ensures c.in_ok-groups.ensures.value;
  few = c.in_ok-groups.ensures.few;
}
