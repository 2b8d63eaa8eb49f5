use Rattle.std.proofs.Common.{◌∙◌, ap, sym, Option, Some, option_copied, option_map, Bor, List, ℕ}
use Rattle.upstream_link.specs.Question.{question_of}
use Rattle.policy_snapshot.proofs.LeastUnknown.{asked_owner}
use Rattle.policy_snapshot.proofs.questions.unknown_owner.Goals as goal

pub returns-in-None : goal.returns-in-None
returns-in-None c =
    ap (λ (o : Option (Bor (List (List ℕ)))). option_map (λ owner. question_of owner 2) (option_copied o)) (sym c.in-None.is)
    ∙ asked_owner c.args.facts.now c.args.name.now c.as_slice.result.now (option_copied c.first_owner.result) c.first_owner.ensures (c.as_slice.ensures ∙ c.in_ok-owners.ensures)

pub returns : goal.returns
returns c =
    ap Some c.in_ok-question_of-in-Some.ensures
    ∙ ap (λ (o : Option (Bor (List (List ℕ)))). option_map (λ owner. question_of owner 2) (option_copied o)) (sym c.in-Some.is)
    ∙ asked_owner c.args.facts.now c.args.name.now c.as_slice.result.now (option_copied c.first_owner.result) c.first_owner.ensures (c.as_slice.ensures ∙ c.in_ok-owners.ensures)
