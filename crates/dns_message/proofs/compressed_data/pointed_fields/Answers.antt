use Rattle.dns_message.proofs.Drafts.{pointed_are}
use Rattle.dns_message.proofs.compressed_data.pointed_fields.Goals as goal

pub returns : goal.returns
returns c = pointed_are c.pointer-place.result c.fields-fields.result c.args.offset c.args.rtype c.args.class c.args.ttl c.args.len c.pointer-place.ensures c.fields-fields.ensures
