use Rattle.dns_name.proofs.WireLemmas.{IsWire-octets}
use Rattle.reply_build.proofs.Pieces.{alias_seen}
use Rattle.reply_build.proofs.writing.alias_ref.Goals as goal

pub new-requires-clause-owner : goal.new-requires-clause-owner
new-requires-clause-owner c = IsWire-octets c.octets.result.now c.args.owner.now c.octets.ensures.octets c.octets.ensures.name

pub returns : goal.returns
returns c = alias_seen c.new.result c.octets.result.now c.octets-2.result.now c.args.owner.now c.args.target.now c.args.ttl c.new.ensures c.octets.ensures.octets c.octets.ensures.name c.octets-2.ensures.octets
