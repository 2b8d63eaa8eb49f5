use Rattle.std.proofs.Common.{◌≡◌, ℕ, List, Option, sym, ap, subst, ◌∙◌}
use Rattle.std.specs.Prelude.{IfOk, IfSome}
use Rattle.std.specs.Map.{lookup}
use Rattle.std.specs.Option.{option_copied}
use Rattle.std.proofs.lemmas.Result.{IfOk-weaker}
use Rattle.upstream_link.specs.Vouched.{PlainLearned}
use Rattle.answer_cache.specs.Keyed.{has}
use Rattle.answer_cache.specs.Recent.{Serves, if_live, live_entry}
use Rattle.answer_cache.proofs.Finding.{found-serves}
use Rattle.answer_cache.proofs.Entries.{found-in_values}
use Rattle.answer_cache.proofs.cache.AnswerCache.look_at.Goals as goal

pub returns-clause-found : goal.returns-clause-found
returns-clause-found g c =
    let es = c.self.inside.entries.entries in
    let peeked : option_copied c.peek.result ≡ lookup (has c.args.key.now) es = c.peek.ensures in
    let is : if_live c.args.now (option_copied c.peek.result) ≡ live_entry c.args.question.now c.args.now c.args.self.now.entries =
    rw (← c.self.view_is) (ap (if_live c.args.now) (peeked ∙ ap (λ (k : List ℕ). lookup (has k) es) c.requires ∙ found-in_values c.args.question.now es c.self.invariant)) in
    subst (λ (o : Option PlainLearned). IfOk c.copied_if_live.result (λ entry. entry ≡ o)) is c.copied_if_live.ensures

pub returns-clause-serves : goal.returns-clause-serves
returns-clause-serves g c =
    let question = c.args.question.now in
    let now = c.args.now in
    let entries = c.args.self.now.entries in
    IfOk-weaker c.copied_if_live.result (λ entry. entry ≡ live_entry question now entries) (λ entry. IfSome entry (Serves question now))
    (λ entry is. subst (λ (o : Option PlainLearned). IfSome o (Serves question now)) (sym is) (found-serves question now entries))
    (returns-clause-found g c)
