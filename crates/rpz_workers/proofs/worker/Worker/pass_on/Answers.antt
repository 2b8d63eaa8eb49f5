use Rattle.std.proofs.Common.{Ok, Err, refl}
use Rattle.rpz_workers.proofs.worker.Worker.pass_on.Goals as goal

pub returns-in-Ok : goal.returns-in-Ok
returns-in-Ok g c = record { tried = Ok c.in-Ok.field-0; what_is = refl; passed_is = rw (← c.self.view_is) c.in-Ok.ensures }

pub returns-in-Err : goal.returns-in-Err
returns-in-Err g c = record { tried = Err c.in-Err.field-0; what_is = refl; passed_is = c.in-Err.ensures }
