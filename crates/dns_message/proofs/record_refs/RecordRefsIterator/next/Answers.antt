use Rattle.std.proofs.Common.{List, length, sym, ap, ◌∙◌, rules}
use Rattle.dns_record.specs.Record.{PlainRecord}
use Rattle.dns_message.proofs.AlikeLemmas.{others_alike}
use Rattle.dns_message.proofs.InPlace.{first_at, one_less}
use Rattle.dns_message.proofs.record_refs.RecordRefsIterator.next.Goals as goal

pub first_record-record-requires : goal.first_record-record-requires
first_record-record-requires c = (first_at c.self.inside.octets.now c.self.inside.spans.now c.in_ok-span.span.now c.in_ok-span.spans.now c.in_ok-span.ensures.cases.0 c.self.invariant.0).begins

pub behind-self-inside-requires : goal.behind-self-inside-requires
behind-self-inside-requires c = (first_at c.self.inside.octets.now c.self.inside.spans.now c.in_ok-span.span.now c.in_ok-span.spans.now c.in_ok-span.ensures.cases.0 c.self.invariant.0).begins.room

pub invariant_of-self : goal.invariant_of-self
invariant_of-self c = (
  rw c.behind-self-inside.ensures (first_at c.self.inside.octets.now c.self.inside.spans.now c.in_ok-span.span.now c.in_ok-span.spans.now c.in_ok-span.ensures.cases.0 c.self.invariant.0).others,
  λ t. others_alike c.self.inside.octets.now c.self.inside.spans.now c.in_ok-span.span.now c.in_ok-span.spans.now c.behind-self-inside.result.now c.in_ok-span.ensures.cases.0 c.behind-self-inside.ensures (c.self.invariant.1 t),
)

pub returns-clause-steps : goal.returns-clause-steps
returns-clause-steps c =
    sym c.self.view_is
    ∙ one_less c.self.inside.octets.now c.self.inside.spans.now c.in_ok-span.span.now c.in_ok-span.spans.now c.first_record-record.result c.behind-self-inside.result.now c.in_ok-span.ensures.cases.0 c.first_record-record.ensures c.behind-self-inside.ensures

pub returns-clause-goes : goal.returns-clause-goes
returns-clause-goes c =
    let step = sym c.self.view_is
    ∙ one_less c.self.inside.octets.now c.self.inside.spans.now c.in_ok-span.span.now c.in_ok-span.spans.now c.first_record-record.result c.behind-self-inside.result.now c.in_ok-span.ensures.cases.0 c.first_record-record.ensures c.behind-self-inside.ensures in
    let shorter = ap (λ (l : List PlainRecord). length l) step in search rules
