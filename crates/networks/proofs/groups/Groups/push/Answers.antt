use Rattle.std.proofs.Common.{arith}
use Rattle.networks.proofs.GroupLemmas.{group_more, more_fits}
use Rattle.networks.proofs.groups.Groups.push.Goals as goal

pub overflow_mul-result : goal.overflow_mul-result
overflow_mul-result c = omega (arith, more_fits c.args.self.number c.args.self.count 0 c.requires.fits (omega arith) (omega arith))

pub overflow_add-result : goal.overflow_add-result
overflow_add-result c = omega (arith, more_fits c.args.self.number c.args.self.count c.from.result c.requires.fits (omega arith) (omega arith))

pub returns-clause-few : goal.returns-clause-few
returns-clause-few c = record { few = omega arith; fits = group_more c.args.self.number c.args.self.count c.from.result c.requires.fits (omega arith) }
