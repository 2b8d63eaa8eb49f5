-- What a look-up finds is about the question, and holds.
use Rattle.std.proofs.Common.{◌≡◌, ℕ, Bool, true, List, [], ◌∷◌, Option, Some, None, IfSome}
use Rattle.std.proofs.lemmas.Bool.{cond_both}
use Rattle.std.proofs.lemmas.Slice.Eq.{bytes_eq-Decides}
use Rattle.std.specs.List.{find}
use Rattle.dns_message.specs.declared.question.Question.{Question}
use Rattle.answer_cache.specs.Key.{key_of}
use Rattle.upstream_link.specs.Vouched.{PlainLearned, live}
use Rattle.answer_cache.specs.Recent.{is_about, live_entry, if_live}
use Rattle.answer_cache.specs.Recent.{Serves}

find-passes : {X : Type 0} (test : X → Bool) (xs : List X) → IfSome (find test xs) (λ y. test y ≡ true)
find-passes test [] = tt
find-passes test (x ∷ xs) = cond_both (test x) (Some x) (find test xs) (λ o. IfSome o (λ y. test y ≡ true)) (λ is. is) (λ _. find-passes test xs)

serves-live : (question : Question) (now : ℕ) (o : Option PlainLearned) → IfSome o (λ entry. is_about question entry ≡ true) → IfSome (if_live now o) (Serves question now)
serves-live question now None about = tt
serves-live question now (Some entry) about =
    cond_both (live now entry) (Some entry) None (λ o. IfSome o (Serves question now)) (λ is. record { about = (bytes_eq-Decides (key_of question) (key_of entry.question)).0 about; holds = is }) (λ _. tt)

pub found-serves : (question : Question) (now : ℕ) (entries : List PlainLearned) → IfSome (live_entry question now entries) (Serves question now)
found-serves question now entries = serves-live question now (find (is_about question) entries) (find-passes (is_about question) entries)
