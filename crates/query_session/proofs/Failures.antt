-- When the turn of a query is the reply of rcode 2: the rcode stands in the fourth octet of a reply, truncated or not.
use Rattle.std.proofs.Common.{◌≡◌, ◌↔◌, ℕ, ◌≤◌, Bool, true, false, cond, List, [], length, get_or, Some, refl, sym, ap, ◌∙◌, subst, arith}
use Rattle.std.specs.Prelude.{nat_lt}
use Rattle.std.proofs.lemmas.Bool.{cond_both, ltb-false, ltb-true}
use Rattle.std.proofs.lemmas.List.{get_or-take}
use Rattle.dns_record.specs.Number.{number_octets}
use Rattle.dns_message.specs.declared.message.Message.{Message}
use Rattle.dns_message.specs.declared.question.Question.{Question}
use Rattle.dns_message.specs.declared.request.Incoming.TheVariants.{Query as Asks}
use Rattle.dns_message.specs.declared.request.Query.{Query}
use Rattle.dns_message.specs.Compressed.{compressed_message, compressed_within}
use Rattle.dns_message.specs.Limit.{reply_limit, truncated_form}
use Rattle.dns_message.specs.Spelling.{header_octets, parts_octets, second_flags, spelling}
use Rattle.dns_message.proofs.Fronts.{compressed_front}
use Rattle.upstream_link.specs.declared.facts.TheConstants.{FACT_LIMIT}
use Rattle.upstream_link.specs.Facts.{AreKept, PlainFacts}
use Rattle.reply_build.specs.declared.said.Said.TheVariants as said
use Rattle.reply_build.specs.declared.turn.Turn.{Turn}
use Rattle.reply_build.specs.declared.turn.Turn.TheVariants.{Ask, Said}
use Rattle.reply_build.specs.Reply.{ReplyOutcome, Sections, by_verdict, gives, needs, outcome_turn, reply_of, server_failure, silent}
use Rattle.reply_build.specs.Verdict.{PlainVerdict, passes, applies}
use Rattle.policy_snapshot.specs.Next.{Next, ask, decided_by, no_hit, chain_too_long, next}
use Rattle.policy_snapshot.specs.Policy.{PlainPolicy}
use Rattle.query_session.specs.Laws.{FailsBy, IsDecided, IsNeeded, by_cause, by_reply, by_rules, failure_turn, long_chain, many_facts, verdict_in}
use Rattle.query_session.specs.Session.{turn_by, turn_by_next, verdict_turn, within_fact_limit}
use Rattle.query_session.proofs.FailureCauses.{Fails, IsByRules, cause, failure}

-- ---- the fourth octet

-- the ID, the flags of the third octet, and those of the fourth
fourth : (m : Message) → get_or (spelling m) 3 0 ≡ second_flags 0 m.header
unfolding parts_octets header_octets number_octets
fourth m = refl

-- a message with its names compressed begins with the header
fourth_compressed : (m : Message) → get_or (compressed_message 0 m) 3 0 ≡ second_flags 0 m.header
unfolding header_octets number_octets
fourth_compressed m = sym (get_or-take 12 (compressed_message 0 m) 3 0 (omega arith)) ∙ ap (λ (l : List ℕ). get_or l 3 0) (compressed_front m 0)

fourth_within : (limit : ℕ) (m : Message) → get_or (compressed_within limit m) 3 0 ≡ second_flags 0 m.header
fourth_within limit m = cond_both (nat_lt limit (length (compressed_message 0 m))) (spelling (truncated_form m)) (compressed_message 0 m) (λ (l : List ℕ). get_or l 3 0 ≡ second_flags 0 m.header)
    (λ _. fourth (truncated_form m)) (λ _. fourth_compressed m)

octets_of : Turn → List ℕ
octets_of (Ask question) = []
octets_of (Said (said.Reply octets)) = octets
octets_of (Said said.Silent) = []

-- replies of other rcodes differ
same_rcode : (limit : ℕ) (query : Query) (s : Sections) → outcome_turn limit query (gives s) ≡ outcome_turn limit query (gives server_failure) → Fails (gives s)
unfolding octets_of
same_rcode limit query s e =
    let octets : compressed_within limit (reply_of query s) ≡ compressed_within limit (reply_of query server_failure) = ap octets_of e in
    let byte : second_flags 0 (reply_of query s).header ≡ second_flags 0 (reply_of query server_failure).header =
    sym (fourth_within limit (reply_of query s)) ∙ ap (λ (l : List ℕ). get_or l 3 0) octets ∙ fourth_within limit (reply_of query server_failure) in
    omega arith

asks_not : (question : Question) (query : Query) → Ask question ≡ failure_turn query → ⊥
asks_not question query e = absurd cc

says_not : (query : Query) → Said said.Silent ≡ failure_turn query → ⊥
says_not query e = absurd cc

-- ---- questions beyond the limit

limited : (query : Query) (facts : PlainFacts) (question : Question) (b : Bool) → nat_lt (length facts) FACT_LIMIT ≡ b → cond b (Ask question) (failure_turn query) ≡ failure_turn query → FACT_LIMIT ≤ length facts
limited query facts question true is e = absurd (asks_not question query e)
limited query facts question false is e = ltb-false (length facts) FACT_LIMIT is

beyond : (query : Query) (facts : PlainFacts) (question : Question) → FACT_LIMIT ≤ length facts → within_fact_limit query facts (Ask question) ≡ failure_turn query
beyond query facts question le = cond_both (nat_lt (length facts) FACT_LIMIT) (Ask question) (failure_turn query) (λ (t : Turn). t ≡ failure_turn query)
    (λ lt. absurd (omega (arith, ltb-true (length facts) FACT_LIMIT lt))) (λ _. refl)

module _ (policy : PlainPolicy) (query : Query) (facts : PlainFacts) where
  -- ---- the turn has a cause

  module _ (kept : AreKept facts) where
    by_outcome : (verdict : PlainVerdict) → IsByRules verdict → IsDecided policy query facts verdict → (outcome : ReplyOutcome) → by_verdict query verdict facts ≡ outcome
        → within_fact_limit query facts (outcome_turn (reply_limit query) query outcome) ≡ failure_turn query → FailsBy policy query facts
    by_outcome verdict rules decided (needs question) is e =
        many_facts question (by_reply verdict decided is) (limited query facts question (nat_lt (length facts) FACT_LIMIT) refl e)
    by_outcome verdict rules decided (gives s) is e =
        by_cause verdict decided (cause query verdict facts kept rules (subst Fails (sym is) (same_rcode (reply_limit query) query s e)))
    by_outcome verdict rules decided silent is e = absurd (says_not query e)

    by_what_comes : (what : Next) → next policy query facts ≡ what → within_fact_limit query facts (turn_by_next query facts what) ≡ failure_turn query → FailsBy policy query facts
    by_what_comes (ask question) is e = many_facts question (by_rules is) (limited query facts question (nat_lt (length facts) FACT_LIMIT) refl e)
    by_what_comes (decided_by before name hit) is e =
        let verdict = applies hit.action hit.soa before name in
        by_outcome verdict tt (ap verdict_in is) (by_verdict query verdict facts) refl e
    by_what_comes no_hit is e = by_outcome passes tt (ap verdict_in is) (by_verdict query passes facts) refl e
    by_what_comes chain_too_long is e = long_chain is

    pub fails_by : turn_by policy (Asks query) facts ≡ failure_turn query → FailsBy policy query facts
    fails_by e = by_what_comes (next policy query facts) refl e

  -- ---- each cause gives it

  decided_turn : (what : Next) (verdict : PlainVerdict) → verdict_in what ≡ Some verdict → turn_by_next query facts what ≡ verdict_turn query facts verdict
  decided_turn (ask question) verdict e = absurd cc
  decided_turn (decided_by before name hit) verdict e = let same : applies hit.action hit.soa before name ≡ verdict = cc in ap (verdict_turn query facts) same
  decided_turn no_hit verdict e = let same : passes ≡ verdict = cc in ap (verdict_turn query facts) same
  decided_turn chain_too_long verdict e = absurd cc

  needed_turn : (question : Question) → IsNeeded policy query facts question → turn_by_next query facts (next policy query facts) ≡ Ask question
  needed_turn question (by_rules is) = ap (turn_by_next query facts) is
  needed_turn question (by_reply verdict decided is) =
      decided_turn (next policy query facts) verdict decided ∙ ap (outcome_turn (reply_limit query) query) is

  pub failed_by : FailsBy policy query facts → turn_by policy (Asks query) facts ≡ failure_turn query
  failed_by (long_chain is) = ap (λ (what : Next). within_fact_limit query facts (turn_by_next query facts what)) is
  failed_by (many_facts question needed le) = ap (within_fact_limit query facts) (needed_turn question needed) ∙ beyond query facts question le
  failed_by (by_cause verdict decided has) =
      ap (within_fact_limit query facts) (decided_turn (next policy query facts) verdict decided ∙ ap (outcome_turn (reply_limit query) query) (failure query verdict facts has))

pub failure_has_cause : (policy : PlainPolicy) (query : Query) (facts : PlainFacts) → AreKept facts → (turn_by policy (Asks query) facts ≡ failure_turn query) ↔ FailsBy policy query facts
failure_has_cause policy query facts kept = (fails_by policy query facts kept, failed_by policy query facts)
