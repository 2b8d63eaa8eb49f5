use Rattle.dns_name.proofs.TailLemmas.{tail_label, tail_pointer}
use Rattle.dns_name.proofs.name_reader.next_of.Goals as goal

pub returns-in-Ok-Label : goal.returns-in-Ok-Label
returns-in-Ok-Label c =
    let item = rw c.in-Ok-Label.field-0-is at c.in-Ok-Label.ensures.item in
    let within = rw c.in-Ok-Label.field-0-is at c.in-Ok-Label.ensures.within in
    tail_label c.args.message.now c.args.octets.now c.args.place c.args.from c.in-Ok-Label.label.now c.requires item within.0

pub returns-in-Ok-Pointer : goal.returns-in-Ok-Pointer
returns-in-Ok-Pointer c =
    let item = rw c.in-Ok-Pointer.field-0-is at c.in-Ok-Pointer.ensures.item in
    let within = rw c.in-Ok-Pointer.field-0-is at c.in-Ok-Pointer.ensures.within in
    tail_pointer c.args.message.now c.args.octets.now c.args.place c.args.from c.in-Ok-Pointer.target c.requires item within
