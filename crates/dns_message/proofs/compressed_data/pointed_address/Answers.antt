use Rattle.dns_message.proofs.Drafts.{pointed_address_is}
use Rattle.dns_message.proofs.compressed_data.pointed_address.Goals as goal

pub returns : goal.returns
returns c = pointed_address_is c.pointed_fields-lead.result c.args.offset c.args.rtype c.args.class c.args.ttl c.args.a c.args.b c.args.c c.args.d c.pointed_fields-lead.ensures
