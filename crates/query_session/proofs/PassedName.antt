-- A name that a query passes it passes whatever facts come.
use Rattle.std.proofs.Common.{◌≡◌, ℕ, List, [], Option, Some, None, refl, ap, ◌∙◌}
use Rattle.dns_message.specs.declared.question.Question.{Question}
use Rattle.dns_message.specs.declared.request.Incoming.{Incoming}
use Rattle.dns_message.specs.declared.request.Incoming.TheVariants.{Silent, Refuse, Query as Asks}
use Rattle.dns_message.specs.declared.request.Query.{Query}
use Rattle.rpz_precedence.specs.Best.{PlainHit, best}
use Rattle.upstream_link.specs.Facts.{Extends, PlainFacts}
use Rattle.policy_snapshot.specs.Hits.{hits}
use Rattle.policy_snapshot.specs.Next.{pending, unless_pending}
use Rattle.policy_snapshot.specs.Policy.{PlainPolicy}
use Rattle.policy_snapshot.specs.Rules.{rules}
use Rattle.policy_snapshot.specs.Stands.{HaveRows}
use Rattle.query_session.specs.Session.{IsPassed, PassesName}

-- the law of what wasn't asked: the best hit, and that nothing is pending, stay
abbrev pub BestStays : Type 0
BestStays = (policy : PlainPolicy) (query : Query) (facts more : PlainFacts) (position : ℕ) (name : List (List ℕ)) → HaveRows policy.zones → Extends facts more
    → pending (rules policy) query facts name (best (hits (rules policy) query facts position name)) ≡ None
    → best (hits (rules policy) query more position name) ≡ best (hits (rules policy) query facts position name)

abbrev pub NoneStays : Type 0
NoneStays = (policy : PlainPolicy) (query : Query) (facts more : PlainFacts) (position : ℕ) (name : List (List ℕ)) → HaveRows policy.zones → Extends facts more
    → pending (rules policy) query facts name (best (hits (rules policy) query facts position name)) ≡ None
    → pending (rules policy) query more name (best (hits (rules policy) query more position name)) ≡ None

unless_none : (name : List (List ℕ)) (hit : Option PlainHit) (question : Option Question) → unless_pending [] name hit question ≡ None → (hit ≡ None) × (question ≡ None)
unless_none name hit (Some question) e = absurd cc
unless_none name (Some hit) None e = absurd cc
unless_none name None None e = (refl, refl)

both_none : (name : List (List ℕ)) (hit : Option PlainHit) (question : Option Question) → hit ≡ None → question ≡ None → unless_pending [] name hit question ≡ None
both_none name hit question h q = ap (unless_pending [] name hit) q ∙ ap (λ (o : Option PlainHit). unless_pending [] name o None) h

name_passed : (policy : PlainPolicy) (query : Query) (facts more : PlainFacts) → HaveRows policy.zones → BestStays → NoneStays → Extends facts more → PassesName policy query facts → PassesName policy query more
name_passed policy query facts more rows best_stays none_stays extends passes =
    let name = query.question.name in
    let hit = best (hits (rules policy) query facts 0 name) in
    let none = unless_none name hit (pending (rules policy) query facts name hit) passes in
    both_none name (best (hits (rules policy) query more 0 name)) (pending (rules policy) query more name (best (hits (rules policy) query more 0 name)))
    (best_stays policy query facts more 0 name rows extends none.1 ∙ none.0)
    (none_stays policy query facts more 0 name rows extends none.1)

pub still_passed : (policy : PlainPolicy) (incoming : Incoming) (facts more : PlainFacts) → HaveRows policy.zones → BestStays → NoneStays → Extends facts more → IsPassed policy incoming facts → IsPassed policy incoming more
still_passed policy Silent facts more rows best_stays none_stays extends passes = tt
still_passed policy (Refuse message) facts more rows best_stays none_stays extends passes = tt
still_passed policy (Asks query) facts more rows best_stays none_stays extends passes = name_passed policy query facts more rows best_stays none_stays extends passes
