-- The step of a chain of aliases, and its ends.
use Rattle.std.proofs.Common.{◌≡◌, ℕ, suc, ◌+◌, ◌-◌, ◌<◌, ◌≤◌, Bool, true, false, ◌&&◌, ◌||◌, cond, List, [], ◌∷◌, ◌++◌, Option, Some, None, refl, sym, ap, ◌∙◌, arith}
use Rattle.std.specs.List.{list_any}
use Rattle.dns_name.specs.Alike.{same_name}
use Rattle.dns_record.specs.Record.{PlainRecord}
use Rattle.dns_message.specs.declared.question.Question.{Question}
use Rattle.upstream_link.specs.Chain.{alias_of, asks_alias, chain, chain_from, chain_with, is_alias, next_name, unmet_target}
use Rattle.upstream_link.specs.Kept.{PlainAnswer}
use Rattle.upstream_link.specs.declared.aliases.TheConstants.{CHAIN_LIMIT}
use Rattle.upstream_link.specs.declared.fact.Fact.TheVariants.{Answer}

abbrev Label : Type 0
Label = List ℕ

module _ (records : List PlainRecord) where
  step : (left : ℕ) (names : List (List Label)) (last : List Label) → chain_from (suc left) records names last ≡ chain_with (chain_from left records) names (next_name records names last)
  unfolding chain_from
  step left names last = refl

  no_more : (names : List (List Label)) (last : List Label) → chain_from 0 records names last ≡ None
  unfolding chain_from
  no_more names last = refl

  -- the chain behind the names that there are, if the name behind them is this
  go_on : (limit count : ℕ) (names shown : List (List Label)) (last : List Label) (next : Option (List Label)) → count < limit → shown ≡ names → next ≡ next_name records shown last → chain_from (limit - count) records names last ≡ chain_with (chain_from (limit - (count + 1)) records) names next
  go_on limit count names shown last next lt same is =
      let left : limit - count ≡ suc (limit - (count + 1)) = omega arith in
      ap (λ (n : ℕ). chain_from n records names last) left
      ∙ step (limit - (count + 1)) names last
      ∙ ap (chain_with (chain_from (limit - (count + 1)) records) names) (sym (is ∙ ap (λ (met : List (List Label)). next_name records met last) same))

  pub chain_ends : (limit count : ℕ) (names shown : List (List Label)) (last : List Label) (next : Option (List Label)) (whole : Option (List (List Label))) → count < limit → shown ≡ names → next ≡ next_name records shown last → next ≡ None → chain_from (limit - count) records names last ≡ whole → Some names ≡ whole
  chain_ends limit count names shown last next whole lt same is none before =
      sym (go_on limit count names shown last next lt same is ∙ ap (chain_with (chain_from (limit - (count + 1)) records) names) none) ∙ before

  pub chain_goes_on : (limit count : ℕ) (names shown longer : List (List Label)) (last name newest : List Label) (next : Option (List Label)) (whole : Option (List (List Label))) → count < limit → shown ≡ names → next ≡ next_name records shown last → next ≡ Some name → longer ≡ names ++ name ∷ [] → newest ≡ name → chain_from (limit - count) records names last ≡ whole → chain_from (limit - (count + 1)) records longer newest ≡ whole
  chain_goes_on limit count names shown longer last name newest next whole lt same is some more new before =
      (λ i. chain_from (limit - (count + 1)) records (more i) (new i))
      ∙ sym (go_on limit count names shown last next lt same is ∙ ap (chain_with (chain_from (limit - (count + 1)) records) names) some)
      ∙ before

  pub chain_too_long : (limit count : ℕ) (names : List (List Label)) (last : List Label) (whole : Option (List (List Label))) → limit ≤ count → chain_from (limit - count) records names last ≡ whole → None ≡ whole
  chain_too_long limit count names last whole le before =
      let left : limit - count ≡ 0 = omega arith in
      sym (ap (λ (n : ℕ). chain_from n records names last) left ∙ no_more names last) ∙ before

-- ---- records without an alias

no_alias_by : (b same more : Bool) (r : PlainRecord) (others : Option PlainRecord) → (b || more) ≡ false → (more ≡ false → others ≡ None) → cond (b && same) (Some r) others ≡ None
no_alias_by true same more r others none rest = absurd cc
no_alias_by false same more r others none rest = rest none

no_alias : (records : List PlainRecord) (name : List Label) → list_any is_alias records ≡ false → alias_of records name ≡ None
no_alias [] name none = refl
no_alias (r ∷ records) name none = no_alias_by (is_alias r) (same_name r.owner name) (list_any is_alias records) r (alias_of records name) none (no_alias records name)

alone_in : (records : List PlainRecord) (name : List Label) → list_any is_alias records ≡ false → chain_from CHAIN_LIMIT records (name ∷ []) name ≡ Some (name ∷ [])
unfolding chain_from
alone_in records name none =
    let next : next_name records (name ∷ []) name ≡ None = ap (unmet_target (name ∷ [])) (no_alias records name none) in
    ap (chain_with (chain_from 15 records) (name ∷ [])) next

alone_by : (b : Bool) (names : List (List Label)) (whole : Option (List (List Label))) → whole ≡ Some names → cond b (Some names) whole ≡ Some names
alone_by true names whole is = refl
alone_by false names whole is = is

pub alone_shown : (question : Question) (answer : PlainAnswer) → list_any is_alias answer.answers ≡ false → chain question (Answer answer) ≡ Some (question.name ∷ [])
alone_shown question answer none =
    alone_by (asks_alias question.qtype) (question.name ∷ []) (chain_from CHAIN_LIMIT answer.answers (question.name ∷ []) question.name) (alone_in answer.answers question.name none)
