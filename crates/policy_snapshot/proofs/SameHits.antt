-- The best hit stays the same, whatever facts come behind, where all is known that a rule needs that could decide.
use Rattle.std.proofs.Common.{◌≡◌, ℕ, Bool, true, false, ◌&&◌, List, ◌++◌, Option, Some, None, is_some, refl, sym, ap, subst, ◌∙◌, true≢false}
use Rattle.std.specs.Cmp.{nat_cmp_total, tied_itself}
use Rattle.std.specs.List.{Contains, list_all, list_any}
use Rattle.std.specs.Ordering.{nat_cmp, ordering_then, is_gt, is_lt}
use Rattle.std.specs.Prelude.{not}
use Rattle.std.specs.declared.cmp.Ordering.{Ordering}
use Rattle.std.specs.declared.cmp.Ordering.TheVariants.{Less, Equal, Greater}
use Rattle.dns_record.specs.Record.{PlainRecord}
use Rattle.dns_message.specs.declared.question.Question.{Question}
use Rattle.dns_message.specs.declared.request.Query.{Query}
use Rattle.trigger_codec.specs.declared.trigger.Trigger.{Trigger}
use Rattle.trigger_codec.specs.declared.trigger.Trigger.TheVariants.{ClientIp, Qname, ResponseIp, NsDname, NsIp}
use Rattle.zone_index.specs.Addresses.{holds_within}
use Rattle.ip_prefix.specs.Prefix.{PlainPrefix}
use Rattle.dns_name.specs.Alike.{matches}
use Rattle.rpz_precedence.specs.Best.{IsBest, PlainHit, best}
use Rattle.rpz_precedence.specs.Rank.{kind_number, place_order, precedes}
use Rattle.upstream_link.specs.declared.fact.Fact.{Fact}
use Rattle.upstream_link.specs.Facts.{PlainFacts, fact_about, is_known, records_about}
use Rattle.upstream_link.specs.Question.{question_of, main_question}
use Rattle.upstream_link.specs.Servers.{ancestors, servers}
use Rattle.policy_snapshot.specs.Hits.{has_address, hit_at, hits, is_hit}
use Rattle.policy_snapshot.specs.Next.{could_decide, has_known_addresses, is_needed, needs_answer, needs_servers, needs_addresses}
use Rattle.policy_snapshot.specs.Rules.{PlainRule}
use Rattle.policy_snapshot.proofs.Members.{empty, none}
use Rattle.policy_snapshot.proofs.ListTests.{all_at, all_if, any_at, any_same, any_weaker, both, both_first, both_second}
use Rattle.policy_snapshot.proofs.NothingPending.{IsReady}
use Rattle.policy_snapshot.proofs.RuleHits.{among_hits, rule_of}

-- what the laws of facts say of these and more behind, as one premise
pub record Stays (facts more : PlainFacts) : Type 0 where
  pub known : (question : Question) (fact : Fact) → fact_about facts question ≡ Some fact → fact_about more question ≡ Some fact
  pub records : (name : List (List ℕ)) (qtype : ℕ) → is_known facts (question_of name qtype) ≡ true → records_about more name qtype ≡ records_about facts name qtype
  pub server_names : (name : List (List ℕ)) → list_all (λ owner. is_known facts (question_of owner 2)) (ancestors name) ≡ true → servers more name ≡ servers facts name

-- ---- what is ready stays so

known_by : (found other : Option Fact) → is_some found ≡ true → ((fact : Fact) → found ≡ Some fact → other ≡ Some fact) → is_some other ≡ true
known_by None other t stays = absurd (true≢false (sym t))
known_by (Some fact) other t stays = ap is_some (stays fact refl)

module _ (facts more : PlainFacts) (stays : Stays facts more) where
  still_known : (question : Question) → is_known facts question ≡ true → is_known more question ≡ true
  still_known question t = known_by (fact_about facts question) (fact_about more question) t (stays.known question)

  still_has_addresses : (server : List (List ℕ)) → has_known_addresses facts server ≡ true → has_known_addresses more server ≡ true
  still_has_addresses server t =
      both (is_known more (question_of server 1)) (is_known more (question_of server 28))
      (still_known (question_of server 1) (both_first (is_known facts (question_of server 1)) (is_known facts (question_of server 28)) t))
      (still_known (question_of server 28) (both_second (is_known facts (question_of server 1)) (is_known facts (question_of server 28)) t))

-- a rule about the addresses of servers needs the servers, too
needs_both : (t : Trigger) → needs_addresses t ≡ true → needs_servers t ≡ true
needs_both (ClientIp prefix) h = h
needs_both (Qname pattern) h = h
needs_both (ResponseIp prefix) h = h
needs_both (NsDname pattern) h = refl
needs_both (NsIp prefix) h = refl

module _ (all : List PlainRule) (hit : Option PlainHit) where
  needed_too : is_needed needs_addresses all hit ≡ true → is_needed needs_servers all hit ≡ true
  needed_too =
      any_weaker (λ rule. needs_addresses rule.trigger && could_decide hit rule) (λ rule. needs_servers rule.trigger && could_decide hit rule) all
      (λ rule h.
      both (needs_servers rule.trigger) (could_decide hit rule)
      (needs_both rule.trigger (both_first (needs_addresses rule.trigger) (could_decide hit rule) h))
      (both_second (needs_addresses rule.trigger) (could_decide hit rule) h))

  needed_by : (needs : Trigger → Bool) (rule : PlainRule) → Contains all rule → could_decide hit rule ≡ true → needs rule.trigger ≡ true → is_needed needs all hit ≡ true
  needed_by needs rule at could need = any_at (λ r. needs r.trigger && could_decide hit r) all rule at (both (needs rule.trigger) (could_decide hit rule) need could)

module _ (all : List PlainRule) (query : Query) (facts more : PlainFacts) (name : List (List ℕ)) (hit : Option PlainHit) (stays : Stays facts more) (ready : IsReady all query facts name hit) where
  pub still_ready : IsReady all query more name hit
  still_ready = record {
    answer = λ t. still_known facts more stays (main_question query) (ready.answer t);
    owners = λ t.
        all_if (λ owner. is_known more (question_of owner 2)) (ancestors name)
        (λ owner at. still_known facts more stays (question_of owner 2) (all_at (λ o. is_known facts (question_of o 2)) (ancestors name) owner (ready.owners t) at));
    addresses = λ t.
        let same = stays.server_names name (ready.owners (needed_too all hit t)) in
        let known = all_if (has_known_addresses more) (servers facts name)
        (λ server at. still_has_addresses facts more stays server (all_at (has_known_addresses facts) (servers facts name) server (ready.addresses t) at)) in
        ap (λ (names : List (List (List ℕ))). list_all (has_known_addresses more) names) same ∙ known;
  }

  -- ---- a rule that could decide is hit as before

  same_address : (prefix : PlainPrefix) (server : List (List ℕ)) → has_known_addresses facts server ≡ true → has_address more prefix server ≡ has_address facts prefix server
  same_address prefix server t =
      let v4 = stays.records server 1 (both_first (is_known facts (question_of server 1)) (is_known facts (question_of server 28)) t) in
      let v6 = stays.records server 28 (both_second (is_known facts (question_of server 1)) (is_known facts (question_of server 28)) t) in
      λ i. list_any (holds_within prefix server) (v4 i ++ v6 i)

  same_trigger : (position : ℕ) (t : Trigger) → (needs_answer t ≡ true → is_needed needs_answer all hit ≡ true) → (needs_servers t ≡ true → is_needed needs_servers all hit ≡ true) → (needs_addresses t ≡ true → is_needed needs_addresses all hit ≡ true)
      → is_hit query more position name t ≡ is_hit query facts position name t
  same_trigger position (ClientIp prefix) a s d = refl
  same_trigger position (Qname pattern) a s d = refl
  same_trigger position (ResponseIp prefix) a s d =
      ap (λ (records : List PlainRecord). list_any (holds_within prefix name) records) (stays.records query.question.name query.question.qtype (ready.answer (a refl)))
  same_trigger position (NsDname pattern) a s d = ap (λ (names : List (List (List ℕ))). list_any (matches pattern) names) (stays.server_names name (ready.owners (s refl)))
  same_trigger position (NsIp prefix) a s d =
      ap (λ (names : List (List (List ℕ))). list_any (has_address more prefix) names) (stays.server_names name (ready.owners (s refl)))
      ∙ any_same (has_address more prefix) (has_address facts prefix) (servers facts name)
      (λ server at. same_address prefix server (all_at (has_known_addresses facts) (servers facts name) server (ready.addresses (d refl)) at))

  pub same_hit : (position : ℕ) (rule : PlainRule) → Contains all rule → could_decide hit rule ≡ true → is_hit query more position name rule.trigger ≡ is_hit query facts position name rule.trigger
  same_hit position rule at could =
      same_trigger position rule.trigger (needed_by all hit needs_answer rule at could) (needed_by all hit needs_servers rule at could) (needed_by all hit needs_addresses rule at could)

-- ---- which rules could decide

not_behind : (zones kinds : Ordering) → zones ≡ Equal → kinds ≡ Equal → not (is_gt (ordering_then zones kinds)) ≡ true
not_behind Less kinds z k = absurd cc
not_behind Equal Less z k = absurd cc
not_behind Equal Equal z k = refl
not_behind Equal Greater z k = absurd cc
not_behind Greater kinds z k = absurd cc

before_by : (positions zones kinds places : Ordering) → positions ≡ Equal → is_lt (ordering_then positions (ordering_then zones (ordering_then kinds places))) ≡ true → not (is_gt (ordering_then zones kinds)) ≡ true
before_by Less zones kinds places p h = absurd cc
before_by Equal Less kinds places p h = refl
before_by Equal Equal Less places p h = refl
before_by Equal Equal Equal places p h = refl
before_by Equal Equal Greater places p h = absurd (true≢false (sym h))
before_by Equal Greater kinds places p h = absurd (true≢false (sym h))
before_by Greater zones kinds places p h = absurd cc

module _ (position : ℕ) where
  -- the rule of the best hit itself
  own_could : (rule : PlainRule) (hit : PlainHit) → hit_at position rule ≡ hit → could_decide (Some hit) rule ≡ true
  own_could rule hit is =
      subst (λ (h : PlainHit). could_decide (Some h) rule ≡ true) is
      (not_behind (nat_cmp rule.zone rule.zone) (nat_cmp (kind_number rule.trigger) (kind_number rule.trigger))
      (tied_itself nat_cmp_total rule.zone) (tied_itself nat_cmp_total (kind_number rule.trigger)))

  -- a rule that precedes it at the same position
  before_could : (rule best_rule : PlainRule) (other hit : PlainHit) → hit_at position rule ≡ other → hit_at position best_rule ≡ hit → precedes other.rank hit.rank ≡ true → could_decide (Some hit) rule ≡ true
  before_could rule best_rule other hit is is_best before =
      let p : precedes (hit_at position rule).rank (hit_at position best_rule).rank ≡ true = ap (λ (o : PlainHit). precedes o.rank (hit_at position best_rule).rank) is ∙ ap (λ (h : PlainHit). precedes other.rank h.rank) is_best ∙ before in
      subst (λ (h : PlainHit). could_decide (Some h) rule ≡ true) is_best
      (before_by (nat_cmp position position) (nat_cmp rule.zone best_rule.zone) (nat_cmp (kind_number rule.trigger) (kind_number best_rule.trigger)) (place_order rule.trigger best_rule.trigger)
      (tied_itself nat_cmp_total position) p)

-- ---- the best hit

module _ (all : List PlainRule) (query : Query) (facts more : PlainFacts) (position : ℕ) (name : List (List ℕ)) where
  abbrev before : List PlainHit
  before = hits all query facts position name

  abbrev behind : List PlainHit
  behind = hits all query more position name

  abbrev AreSame : Option PlainHit → Type 0
  AreSame hit = (rule : PlainRule) → Contains all rule → could_decide hit rule ≡ true → is_hit query more position name rule.trigger ≡ is_hit query facts position name rule.trigger

  -- a hit by all facts of a rule that could decide is one by the first
  was_hit : (best_hit : Option PlainHit) (hit : PlainHit) (rule : PlainRule) → AreSame best_hit → Contains all rule → could_decide best_hit rule ≡ true → is_hit query more position name rule.trigger ≡ true → hit_at position rule ≡ hit → Contains before hit
  was_hit best_hit hit rule same at could is_hit is = subst (λ (h : PlainHit). Contains before h) is (among_hits query facts position name all rule at (sym (same rule at could) ∙ is_hit))

  best_stays : (found : Option PlainHit) → AreSame found → IsBest before found → IsBest behind found
  best_stays None same is =
      empty behind (λ hit at.
      let r = rule_of query more position name all hit at in
      none hit (subst (λ (l : List PlainHit). Contains l hit) is (was_hit None hit r.rule same r.within refl r.is_hit r.is)))
  best_stays (Some hit) same is =
      let r = rule_of query facts position name all hit is.0 in (
        subst (λ (h : PlainHit). Contains behind h) r.is (among_hits query more position name all r.rule r.within (same r.rule r.within (own_could position r.rule hit r.is) ∙ r.is_hit)),
        λ other at. by_test other at r.rule r.is (precedes other.rank hit.rank) refl is.1,
      )
    where
      by_test : (other : PlainHit) → Contains behind other → (best_rule : PlainRule) → hit_at position best_rule ≡ hit → (t : Bool) → precedes other.rank hit.rank ≡ t → ((o : PlainHit) → Contains before o → precedes o.rank hit.rank ≡ false) → precedes other.rank hit.rank ≡ false
      by_test other at best_rule is_best true t first =
          let s = rule_of query more position name all other at in
          first other (was_hit (Some hit) other s.rule same s.within (before_could position s.rule best_rule other hit s.is is_best t) s.is_hit s.is)
      by_test other at best_rule is_best false t first = t

-- the best hits by some facts and by more are one
pub same_best : (all : List PlainRule) (query : Query) (facts more : PlainFacts) (position : ℕ) (name : List (List ℕ)) → Stays facts more → IsBest (hits all query facts position name) (best (hits all query facts position name)) → ((found : Option PlainHit) → IsBest (hits all query more position name) found → found ≡ best (hits all query more position name))
    → IsReady all query facts name (best (hits all query facts position name)) → best (hits all query more position name) ≡ best (hits all query facts position name)
same_best all query facts more position name stays is only ready =
    let hit = best (hits all query facts position name) in
    sym (only hit (best_stays all query facts more position name hit (same_hit all query facts more name hit stays ready position) is))
