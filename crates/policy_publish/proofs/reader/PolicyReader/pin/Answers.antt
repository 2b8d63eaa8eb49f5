use Rattle.std.proofs.Common.{OnOk, subst}
use Rattle.policy_publish.specs.Lists.{GoesOn, Known}
use Rattle.policy_publish.proofs.reader.PolicyReader.pin.Goals as goal

pub returns-in-Ok-Some-clause-later : goal.returns-in-Ok-Some-clause-later
returns-in-Ok-Some-clause-later g c =
    subst (λ (k : Known). OnOk c.take-in-Ok-Some.result (GoesOn k c.take-in-Ok-Some.new.self.seen)) c.self.view_is c.take-in-Ok-Some.ensures.later
