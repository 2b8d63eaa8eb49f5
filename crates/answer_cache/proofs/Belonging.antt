-- What is true of every entry stays true of every entry.
use Rattle.std.proofs.Common.{◌≡◌, ◌==◌, ℕ, zero, suc, List, [], ◌∷◌, take, Option, Some, None, IfSome, Result, Ok, Err, OnOk, OnErr, subst, sym}
use Rattle.std.specs.List.{find, AllByRecursion}
use Rattle.std.specs.Option.{option_map_or}
use Rattle.std.proofs.lemmas.Bool.{cond_both}
use Rattle.dns_message.specs.declared.question.Question.{Question}
use Rattle.upstream_link.specs.Vouched.{PlainLearned, life}
use Rattle.answer_cache.specs.Recent.{Recent, recent, is_about, without, after_look_up, put_first, after_keep}

module _ (P : PlainLearned → Type 0) where
  abbrev All : List PlainLearned → Type 0
  All = AllByRecursion P

  all-take : (n : ℕ) (es : List PlainLearned) → All es → All (take n es)
  all-take zero es h = tt
  all-take (suc n) [] h = tt
  all-take (suc n) (e ∷ es) h = (h.0, all-take n es h.1)

  all-without : (q : Question) (es : List PlainLearned) → All es → All (without q es)
  all-without q [] h = tt
  all-without q (e ∷ es) h = cond_both (is_about q e) es (e ∷ without q es) All (λ _. h.1) (λ _. (h.0, all-without q es h.1))

  all-found : (q : Question) (es : List PlainLearned) → All es → IfSome (find (is_about q) es) P
  all-found q [] h = tt
  all-found q (e ∷ es) h = cond_both (is_about q e) (Some e) (find (is_about q) es) (λ o. IfSome o P) (λ _. h.0) (λ _. all-found q es h.1)

  all-front : (o : Option PlainLearned) (rest es : List PlainLearned) → IfSome o P → All rest → All es → All (option_map_or (λ e. e ∷ rest) o es)
  all-front None rest es ho hr h = h
  all-front (Some e) rest es ho hr h = (ho, hr)

  pub all-looked_up : (q : Question) (es : List PlainLearned) → All es → All (after_look_up q es)
  all-looked_up q es h = all-front (find (is_about q) es) (without q es) es (all-found q es h) (all-without q es h) h

  pub all-kept : (limit : ℕ) (e : PlainLearned) (es : List PlainLearned) → P e → All es → All (after_keep limit e es)
  all-kept limit e es he h = cond_both (life e == 0) es (put_first limit e es) All (λ _. h) (λ _. all-take limit (e ∷ without e.question es) (he, all-without e.question es h))

  -- what a call left is one of two lists
  pub all-after : {A E : Type 0} (r : Result A E) (old new : Recent) (next : List PlainLearned) → OnOk r (new ≡ recent next old.limit) → OnErr r (new ≡ old) → All next → All old.entries → All new.entries
  all-after (Ok x) old new next ok err hn ho = subst (λ (c : Recent). All c.entries) (sym ok) hn
  all-after (Err e) old new next ok err hn ho = subst (λ (c : Recent). All c.entries) (sym err) ho
