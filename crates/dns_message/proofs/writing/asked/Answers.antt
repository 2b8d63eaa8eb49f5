use Rattle.std.proofs.Common.{arith}
use Rattle.dns_message.proofs.Pieces.{asked_is}
use Rattle.dns_message.proofs.writing.asked.Goals as goal

pub returns : goal.returns
returns c = asked_is c.args.qtype c.args.qclass (omega arith) (omega arith)
