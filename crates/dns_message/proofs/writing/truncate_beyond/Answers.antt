use Rattle.std.proofs.Common.{arith}
use Rattle.dns_message.proofs.Limits.{cut_fits}
use Rattle.dns_message.proofs.writing.truncate_beyond.Goals as goal

pub returns-clause-fits : goal.returns-clause-fits
returns-clause-fits c = cut_fits c.write_parts.result _ c.write_parts.new.out c.args.header.now _ _ c.args.limit (omega arith) c.clear.ensures c.write_parts.ensures.ok c.write_parts.ensures.question
