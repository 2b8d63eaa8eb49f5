use Rattle.std.proofs.Common.{sym, ◌∙◌, ap}
use Rattle.reply_build.specs.declared.said.Said.{Said}
use Rattle.rpz_workers.specs.declared.outcome.Outcome.TheVariants as outcome
use Rattle.rpz_workers.proofs.Worked.{nothing_sent, passed_sends, silent_sends}
use Rattle.rpz_workers.proofs.handling.send_reply.Goals as goal

pub returns-in-PassedOn-clause-sends : goal.returns-in-PassedOn-clause-sends
returns-in-PassedOn-clause-sends g c = passed_sends _ _ _ _ _ c.in-PassedOn.is

pub returns-in-Silent-clause-sends : goal.returns-in-Silent-clause-sends
returns-in-Silent-clause-sends g c = silent_sends _ _ _ _ _ (c.in-Said.is ∙ ap (λ (s : Said). outcome.Said s) c.in-Silent.is)

pub returns-in-None-clause-sends : goal.returns-in-None-clause-sends
returns-in-None-clause-sends g c = nothing_sent _ _ _ _ _ c.in-NoMemory.is (sym c.bare_reply.ensures ∙ c.in-None.is)
