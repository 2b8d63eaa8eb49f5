use Rattle.std.proofs.Common.{map}
use Rattle.dns_message.specs.Aged.{aged}
use Rattle.dns_message.proofs.AlikeLemmas.{beyond_all}
use Rattle.dns_message.proofs.message_writer.MessageWriter.write_all_aged.Goals as goal

pub returns-then-self : goal.returns-then-self
returns-then-self c = beyond_all c.self.inside.limit c.self.inside.octets c.self.inside.places c.self.inside.is_beyond c.args.self.now (map (aged c.args.seconds) c.args.records) c.self.view_is c.if-self.true
