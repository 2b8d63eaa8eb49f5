-- One name of a chain, and the names behind it.
use Rattle.std.proofs.Common.{◌≡◌, ℕ, ◌+◌, ◌<◌, List, [], ◌∷◌, ◌++◌, length, take, drop, get_or, Option, Some, None, refl, sym, ap, ◌∙◌, add-one}
use Rattle.std.specs.Option.{option_map}
use Rattle.std.proofs.Math.Seq.{drop-cons, take-suc}
use Rattle.dns_message.specs.declared.request.Query.{Query}
use Rattle.upstream_link.specs.Facts.{PlainFacts}
use Rattle.policy_snapshot.specs.Next.{Next, next_along, next_at, or_next}
use Rattle.policy_snapshot.specs.Rules.{PlainRule}
use Rattle.reply_build.specs.declared.turn.Turn.{Turn}

abbrev Name : Type 0
Name = List (List ℕ)

here : (by : Next → Turn) (first : Option Next) (rest : Next) (turn : Turn) → Some turn ≡ option_map by first → turn ≡ by (or_next first rest)
here by None rest turn e = absurd cc
here by (Some following) rest turn e = cc

behind : (by : Next → Turn) (first : Option Next) (rest : Next) → None ≡ option_map by first → or_next first rest ≡ rest
behind by None rest e = refl
behind by (Some following) rest e = absurd cc

module _ (all : List PlainRule) (query : Query) (facts : PlainFacts) (names : List Name) where
  -- what comes next behind the names before a place is what comes next at this place or behind it
  at_place : (place : ℕ) (name : Name) → place < length names → name ≡ get_or names place name → next_along all query facts (take place names) (drop place names) ≡ or_next (next_at all query facts (take place names) name) (next_along all query facts (take (place + 1) names) (drop (place + 1) names))
  at_place place name lt is =
      let more : take place names ++ name ∷ [] ≡ take (place + 1) names =
      ap (λ (x : Name). take place names ++ x ∷ []) is ∙ sym (take-suc names place name lt) ∙ ap (λ (n : ℕ). take n names) (sym (add-one place)) in
      let rest : drop place names ≡ name ∷ drop (place + 1) names =
      drop-cons names place name lt ∙ (λ i. sym is i ∷ drop (sym (add-one place) i) names) in
      ap (next_along all query facts (take place names)) rest
      ∙ ap (λ (before : List Name). or_next (next_at all query facts (take place names) name) (next_along all query facts before (drop (place + 1) names))) more

  pub turn_here : (by : Next → Turn) (place : ℕ) (name : Name) (whole : Next) (found : Option Turn) (turn : Turn) → place < length names → name ≡ get_or names place name → found ≡ option_map by (next_at all query facts (take place names) name) → found ≡ Some turn → next_along all query facts (take place names) (drop place names) ≡ whole → turn ≡ by whole
  turn_here by place name whole found turn lt is ensures some before =
      here by (next_at all query facts (take place names) name) (next_along all query facts (take (place + 1) names) (drop (place + 1) names)) turn (sym some ∙ ensures)
      ∙ ap by (sym (at_place place name lt is) ∙ before)

  pub goes_on : (by : Next → Turn) (place : ℕ) (name : Name) (whole : Next) (found : Option Turn) → place < length names → name ≡ get_or names place name → found ≡ option_map by (next_at all query facts (take place names) name) → found ≡ None → next_along all query facts (take place names) (drop place names) ≡ whole → next_along all query facts (take (place + 1) names) (drop (place + 1) names) ≡ whole
  goes_on by place name whole found lt is ensures none before =
      sym (behind by (next_at all query facts (take place names) name) (next_along all query facts (take (place + 1) names) (drop (place + 1) names)) (sym none ∙ ensures))
      ∙ sym (at_place place name lt is)
      ∙ before
