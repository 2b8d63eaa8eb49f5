use Rattle.std.proofs.Common.{List, length, ap, ◌∙◌}
use Rattle.dns_record.specs.Record.{PlainRecord}
use Rattle.dns_message.proofs.InPlace.{count_is}
use Rattle.dns_message.proofs.record_refs.RecordRefs.len.Goals as goal

pub returns : goal.returns
returns c = count_is c.self.inside.octets.now c.self.inside.spans.now ∙ ap (λ (l : List PlainRecord). length l) c.self.view_is
