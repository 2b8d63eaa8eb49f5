use Rattle.std.proofs.Common.{refl}
use Rattle.dns_record.specs.Number.{number_octets}
use Rattle.dns_record.proofs.record.field_octets.Goals as goal

pub returns : goal.returns
unfolding number_octets
returns c = rw (c.write_u16-3.ensures, c.write_u32.ensures, c.write_u16-2.ensures, c.write_u16.ensures) refl
