use Rattle.dns_name.proofs.WireLemmas.{IsWire-octets}
use Rattle.reply_build.proofs.Pieces.{ref_seen}
use Rattle.reply_build.proofs.rows.row_ref.Goals as goal

pub new-requires-clause-owner : goal.new-requires-clause-owner
new-requires-clause-owner c = IsWire-octets c.octets.result.now c.args.owner.now c.octets.ensures.octets c.octets.ensures.name

pub returns : goal.returns
returns c = ref_seen c.new.result c.octets.result.now c.args.owner.now c.args.row.rtype 1 c.args.row.ttl c.args.row.rdata.now c.new.ensures c.octets.ensures.octets c.octets.ensures.name
