use Rattle.std.proofs.Common.{ℕ, ap}
use Rattle.std.specs.Prelude.{nat_le}
use Rattle.dns_message.proofs.Outside.{question_room}
use Rattle.dns_message.proofs.triage.is_within.Goals as goal

pub returns : goal.returns
returns c = ap (λ (n : ℕ). nat_le n c.args.most) (question_room c.args.question.now c.octets.result.now c.octets.ensures.octets)
