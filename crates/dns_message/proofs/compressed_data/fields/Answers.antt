use Rattle.std.proofs.Common.{arith}
use Rattle.dns_message.proofs.Drafts.{fields_are}
use Rattle.dns_message.proofs.compressed_data.fields.Goals as goal

pub returns : goal.returns
returns c = fields_are c.args.rtype c.args.class c.args.ttl c.args.len (omega arith) (omega arith) (omega arith) (omega arith)
