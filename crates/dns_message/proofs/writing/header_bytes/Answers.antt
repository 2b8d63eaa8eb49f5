use Rattle.std.proofs.Common.{arith}
use Rattle.dns_message.proofs.Pieces.{header_is}
use Rattle.dns_message.proofs.writing.header_bytes.Goals as goal

pub returns : goal.returns
returns c = rw (c.first_flags.ensures, c.second_flags.ensures) (header_is c.args.header.now c.args.questions c.args.answers c.args.authorities c.args.additionals (omega arith))
