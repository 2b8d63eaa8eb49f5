use Rattle.zone_index.proofs.Zones.{plain_fails, plain_made, plain_held}
use Rattle.zone_index.proofs.loaded.plain_after.Goals as goal

pub returns-in-Err-clause-outcome : goal.returns-in-Err-clause-outcome
returns-in-Err-clause-outcome c = plain_fails c.args.origin c.args.content c.args.steps c.in-Err.error c.in-Err.ensures.outcome

pub unreachable-requires : goal.unreachable-requires
unreachable-requires c = plain_held c.args.origin c.args.content c.args.steps c.in-Ok.field-0 c.in-Ok.ensures.outcome c.in-None.is

pub returns-clause-outcome : goal.returns-clause-outcome
returns-clause-outcome c = plain_made c.args.origin c.args.content c.args.steps c.in-Ok.field-0 c.in-Some.content c.in-Ok.ensures.outcome c.in-Some.is
