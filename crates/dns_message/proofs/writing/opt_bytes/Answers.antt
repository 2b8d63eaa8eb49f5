use Rattle.std.proofs.Common.{arith}
use Rattle.dns_message.proofs.Pieces.{opt_is}
use Rattle.dns_message.proofs.writing.opt_bytes.Goals as goal

pub returns : goal.returns
returns c = opt_is c.args.payload c.args.extended c.args.version (omega arith)
