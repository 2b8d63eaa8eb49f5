-- No question is pending exactly where all is known that a rule needs that could decide.
use Rattle.std.proofs.Common.{◌≡◌, ℕ, Bool, true, false, List, [], ◌∷◌, Option, Some, None, map, refl, sym, ap, subst, true≢false}
use Rattle.std.proofs.lemmas.Bool.{not_from_false, not_from_true}
use Rattle.std.specs.List.{Contains, list_all}
use Rattle.std.specs.Option.{option_map}
use Rattle.std.specs.Prelude.{cond, filter, not}
use Rattle.dns_message.specs.declared.question.Question.{Question}
use Rattle.dns_message.specs.declared.request.Query.{Query}
use Rattle.rpz_precedence.specs.Best.{PlainHit}
use Rattle.upstream_link.specs.Facts.{PlainFacts, is_known}
use Rattle.upstream_link.specs.Question.{question_of, main_question}
use Rattle.upstream_link.specs.Servers.{ancestors, servers}
use Rattle.policy_snapshot.specs.Next.{needs_answer, needs_servers, needs_addresses, is_needed, first_unknown, server_questions, has_known_addresses, least_name, address_question, unknown_address, if_needed, or_question, pending}
use Rattle.policy_snapshot.specs.Rules.{PlainRule}
use Rattle.policy_snapshot.proofs.Members.{none, to_filter}
use Rattle.policy_snapshot.proofs.ListTests.{both, both_first, both_second, all_at, all_if, none_kept}
use Rattle.policy_snapshot.proofs.LeastName.{no_least}

-- What is needed at a position, where this name stands, is known: the answer, the NS records of the name and those above it,
-- the addresses of its servers.
pub record IsReady (all : List PlainRule) (query : Query) (facts : PlainFacts) (name : List (List ℕ)) (hit : Option PlainHit) : Type 0 where
  pub answer : is_needed needs_answer all hit ≡ true → is_known facts (main_question query) ≡ true
  pub owners : is_needed needs_servers all hit ≡ true → list_all (λ owner. is_known facts (question_of owner 2)) (ancestors name) ≡ true
  pub addresses : is_needed needs_addresses all hit ≡ true → list_all (has_known_addresses facts) (servers facts name) ≡ true

-- ---- the parts of what is pending

record NoneOf (a b : Option Question) : Type 0 where
  first : a ≡ None
  second : b ≡ None

or_none : (a b : Option Question) → or_question a b ≡ None → NoneOf a b
or_none (Some question) b e = absurd cc
or_none None b e = record { first = refl; second = e }

none_or : (a b : Option Question) → a ≡ None → b ≡ None → or_question a b ≡ None
none_or (Some question) b e f = absurd cc
none_or None b e f = f

if_none : (needed : Bool) (question : Option Question) → if_needed needed question ≡ None → needed ≡ true → question ≡ None
if_none true question e t = e
if_none false question e t = absurd (true≢false (sym t))

none_if : (needed : Bool) (question : Option Question) → (needed ≡ true → question ≡ None) → if_needed needed question ≡ None
none_if true question e = e refl
none_if false question e = refl

-- ---- questions whose answers are known

known_by : (known : Bool) (question : Question) (rest : Option Question) → cond (not known) (Some question) rest ≡ None → (known ≡ true) × (rest ≡ None)
known_by true question rest e = (refl, e)
known_by false question rest e = absurd cc

by_known : (known : Bool) (question : Question) (rest : Option Question) → known ≡ true → rest ≡ None → cond (not known) (Some question) rest ≡ None
by_known true question rest t e = e
by_known false question rest t e = absurd (true≢false (sym t))

module _ (facts : PlainFacts) where
  owners_known : (owners : List (List (List ℕ))) → first_unknown facts (map (λ owner. question_of owner 2) owners) ≡ None → list_all (λ owner. is_known facts (question_of owner 2)) owners ≡ true
  owners_known [] e = refl
  owners_known (owner ∷ owners) e =
      let k = known_by (is_known facts (question_of owner 2)) (question_of owner 2) (first_unknown facts (map (λ o. question_of o 2) owners)) e in
      both (is_known facts (question_of owner 2)) (list_all (λ o. is_known facts (question_of o 2)) owners) k.0 (owners_known owners k.1)

  no_owner : (owners : List (List (List ℕ))) → list_all (λ owner. is_known facts (question_of owner 2)) owners ≡ true → first_unknown facts (map (λ owner. question_of owner 2) owners) ≡ None
  no_owner [] t = refl
  no_owner (owner ∷ owners) t =
      let rest = list_all (λ o. is_known facts (question_of o 2)) owners in
      by_known (is_known facts (question_of owner 2)) (question_of owner 2) (first_unknown facts (map (λ o. question_of o 2) owners))
      (both_first (is_known facts (question_of owner 2)) rest t) (no_owner owners (both_second (is_known facts (question_of owner 2)) rest t))

  abbrev lacks : List (List ℕ) → Bool
  lacks server = not (has_known_addresses facts server)

  absent : (least : Option (List (List ℕ))) → option_map (address_question facts) least ≡ None → least ≡ None
  absent None e = refl
  absent (Some server) e = absurd cc

  addresses_known : (name : List (List ℕ)) → unknown_address facts name ≡ None → list_all (has_known_addresses facts) (servers facts name) ≡ true
  addresses_known name e =
      let all = servers facts name in
      let empty : filter lacks all ≡ [] = no_least (filter lacks all) (absent (least_name (filter lacks all)) e) in
      all_if (has_known_addresses facts) all (λ server at. by_test server at (has_known_addresses facts server) refl empty)
    where
      by_test : (server : List (List ℕ)) → Contains (servers facts name) server → (known : Bool) → has_known_addresses facts server ≡ known → filter lacks (servers facts name) ≡ [] → has_known_addresses facts server ≡ true
      by_test server at true is empty = is
      by_test server at false is empty =
          absurd (none server (subst (λ (l : List (List (List ℕ))). Contains l server) empty (to_filter lacks (servers facts name) server at (not_from_false (has_known_addresses facts server) is))))

  no_address : (name : List (List ℕ)) → list_all (has_known_addresses facts) (servers facts name) ≡ true → unknown_address facts name ≡ None
  no_address name t =
      let empty = none_kept lacks (servers facts name) (λ server at. not_from_true (has_known_addresses facts server) (all_at (has_known_addresses facts) (servers facts name) server t at)) in
      ap (λ (l : List (List (List ℕ))). option_map (address_question facts) (least_name l)) empty

-- ---- the whole

module _ (all : List PlainRule) (query : Query) (facts : PlainFacts) (name : List (List ℕ)) (hit : Option PlainHit) where
  abbrev about_answer : Option Question
  about_answer = if_needed (is_needed needs_answer all hit) (first_unknown facts (main_question query ∷ []))

  abbrev about_owners : Option Question
  about_owners = if_needed (is_needed needs_servers all hit) (first_unknown facts (server_questions name))

  abbrev about_addresses : Option Question
  about_addresses = if_needed (is_needed needs_addresses all hit) (unknown_address facts name)

  pub is_ready : pending all query facts name hit ≡ None → IsReady all query facts name hit
  is_ready e =
      let a = or_none about_answer (or_question about_owners about_addresses) e in
      let b = or_none about_owners about_addresses a.second in
      record {
        answer = λ t. (known_by (is_known facts (main_question query)) (main_question query) None (if_none (is_needed needs_answer all hit) (first_unknown facts (main_question query ∷ [])) a.first t)).0;
        owners = λ t. owners_known facts (ancestors name) (if_none (is_needed needs_servers all hit) (first_unknown facts (server_questions name)) b.first t);
        addresses = λ t. addresses_known facts name (if_none (is_needed needs_addresses all hit) (unknown_address facts name) b.second t);
      }

  pub none_pending : IsReady all query facts name hit → pending all query facts name hit ≡ None
  none_pending ready =
      none_or about_answer (or_question about_owners about_addresses)
      (none_if (is_needed needs_answer all hit) (first_unknown facts (main_question query ∷ [])) (λ t. by_known (is_known facts (main_question query)) (main_question query) None (ready.answer t) refl))
      (none_or about_owners about_addresses
      (none_if (is_needed needs_servers all hit) (first_unknown facts (server_questions name)) (λ t. no_owner facts (ancestors name) (ready.owners t)))
      (none_if (is_needed needs_addresses all hit) (unknown_address facts name) (λ t. no_address facts name (ready.addresses t))))
