use Rattle.std.proofs.Common.{◌∙◌, ap, sym, Option, Some, option_copied, option_map, Bor, List, ℕ}
use Rattle.policy_snapshot.specs.Next.{address_question}
use Rattle.policy_snapshot.proofs.LeastUnknown.{asked_address}
use Rattle.policy_snapshot.proofs.questions.unknown_address.Goals as goal

pub returns-in-None : goal.returns-in-None
returns-in-None c =
    ap (λ (o : Option (Bor (List (List ℕ)))). option_map (address_question c.args.facts.now) (option_copied o)) (sym c.in-None.is)
    ∙ asked_address c.args.facts.now c.args.name.now c.in_ok-lists.lists (option_copied c.first_server.result) c.first_server.ensures c.in_ok-lists.ensures

pub returns : goal.returns
returns c =
    ap Some (c.in_ok-address_question-in-Some).ensures
    ∙ ap (λ (o : Option (Bor (List (List ℕ)))). option_map (address_question c.args.facts.now) (option_copied o)) (sym c.in-Some.is)
    ∙ asked_address c.args.facts.now c.args.name.now c.in_ok-lists.lists (option_copied c.first_server.result) c.first_server.ensures c.in_ok-lists.ensures
