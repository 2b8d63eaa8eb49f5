-- A step of an incremental transfer while its rows come, behind the steps before it: see src/stepping.rt.
use Rattle.std.specs.Prelude.{List}
use Rattle.dns_record.specs.declared.soa.Soa.{Soa}
use Rattle.dns_record.specs.Row.{PlainRow}
use Rattle.zone_rows.specs.Steps.{PlainStep}

-- steps, the SOA that begins the next one, and the rows that it takes out so far
pub record PlainDeleting : Type 0 where
  pub steps : List PlainStep
  pub from : Soa
  pub deleted : List PlainRow

-- the same with the SOA that the step makes, and the rows that it puts in so far
pub record PlainAdding : Type 0 where
  pub before : PlainDeleting
  pub to : Soa
  pub added : List PlainRow

-- the step as far as it has come
abbrev pub step_of : PlainAdding → PlainStep
step_of adding =
    record {
      old = adding.before.from;
      deleted = adding.before.deleted;
      new = adding.to;
      added = adding.added;
    }
