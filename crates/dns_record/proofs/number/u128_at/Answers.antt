use Rattle.std.proofs.lemmas.List.{take_rest}
use Rattle.dns_record.specs.Number.{number_at}
use Rattle.dns_record.proofs.number.u128_at.Goals as goal

pub returns : goal.returns
unfolding number_at
returns c = rw take_rest at c.read_u128.ensures
