use Rattle.std.proofs.Common.{refl}
use Rattle.ixfr_apply.proofs.Feeding.{none_waits}
use Rattle.ixfr_apply.proofs.reader.TransferReader.start_within.Goals as goal

pub returns-clause-waits : goal.returns-clause-waits
returns-clause-waits c = rw (c.new.ensures) (none_waits (record { id = c.args.id; origin = c.in_ok-origin.origin; wanted = c.args.wanted; most = c.args.most }), refl)
