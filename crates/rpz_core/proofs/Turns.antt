-- Turns of a query that live entries of the cache answer.
use Rattle.std.proofs.Common.{◌≡◌, ℕ, suc, ◌+◌, ◌-◌, ◌<◌, ◌≤◌, List, [], ◌∷◌, ◌++◌, Option, Some, None, Result, Ok, Err, refl, sym, ap, ◌∙◌, subst, arith, append_assoc}
use Rattle.std.specs.Prelude.{IfOk, OnOk, OnErr}
use Rattle.std.specs.declared.alloc.AllocError.{AllocError}
use Rattle.std.proofs.lemmas.List.{append-nil}
use Rattle.dns_message.specs.declared.question.Question.{Question}
use Rattle.dns_message.specs.declared.request.Incoming.{Incoming}
use Rattle.upstream_link.specs.declared.fact.Fact.{Fact}
use Rattle.upstream_link.specs.declared.facts.TheConstants.{FACT_LIMIT}
use Rattle.upstream_link.specs.Facts.{PlainFacts}
use Rattle.upstream_link.specs.Vouched.{PlainLearned, fact_at}
use Rattle.answer_cache.specs.Recent.{Recent, live_entry, recent, after_look_up}
use Rattle.policy_snapshot.specs.Policy.{PlainPolicy}
use Rattle.reply_build.specs.declared.said.Said as replies
use Rattle.reply_build.specs.declared.turn.Turn.{Turn}
use Rattle.reply_build.specs.declared.turn.Turn.TheVariants.{Ask, Said}
use Rattle.query_session.specs.Session.{after_fact, after_turn, question_in, turn_by, turn_of}
use Rattle.query_session.specs.State.{SessionState}
use Rattle.rpz_core.specs.Pending.{IsLater, Resolves, ResolvesOnce}
use Rattle.rpz_core.specs.Resolving.{Resolved, by_entry, by_turn, resolve, resolve_within, resolution}

-- ---- later states of a session

pub later_same : (s : SessionState) → IsLater s s
later_same s = record { policy = refl; incoming = refl; more = []; facts = sym (append-nil s.facts) }

pub later_later : (a b c : SessionState) → IsLater a b → IsLater b c → IsLater a c
later_later a b c first second = record {
  policy = second.policy ∙ first.policy;
  incoming = second.incoming ∙ first.incoming;
  more = first.more ++ second.more;
  facts = second.facts ∙ ap (λ (l : PlainFacts). l ++ second.more) first.facts ∙ append_assoc a.facts first.more second.more;
}

pub later_turn : (old new : SessionState) → new ≡ after_turn old → IsLater old new
later_turn old new is = record {
  policy = ap (λ (s : SessionState). s.policy) is;
  incoming = ap (λ (s : SessionState). s.incoming) is;
  more = [];
  facts = ap (λ (s : SessionState). s.facts) is ∙ sym (append-nil old.facts);
}

-- ---- one turn

-- it says something
pub once_said : (now : ℕ) (cache : Recent) (old new : SessionState) (said : replies.Said) → Said said ≡ turn_of old → new ≡ after_turn old
    → ResolvesOnce now (Ok (Some (Said said))) cache cache old new
once_said now cache old new said turn is = (
  λ go_on. ap (by_turn go_on now cache.entries old.facts) (sym turn) ∙ ap (λ (facts : PlainFacts). resolution cache.entries facts (Said said)) (sym (ap (λ (s : SessionState). s.facts) is)),
  later_turn old new is,
  ap (λ (s : SessionState). s.asked) is ∙ ap question_in (sym turn),
)

-- what a look-up finds decides on what a turn that asks comes to
looked_up : (go_on : List PlainLearned → PlainFacts → Resolved) (now : ℕ) (cached after : List PlainLearned) (facts : PlainFacts) (turn : Turn) (question : Question) (entry : Option PlainLearned)
    → Ask question ≡ turn → entry ≡ live_entry question now cached → after ≡ after_look_up question cached
    → by_turn go_on now cached facts turn ≡ by_entry go_on now after facts question entry
looked_up go_on now cached after facts turn question entry asks finds is =
    ap (by_turn go_on now cached facts) (sym asks)
    ∙ ap (λ (e : Option PlainLearned). by_entry go_on now (after_look_up question cached) facts question e) (sym finds)
    ∙ ap (λ (l : List PlainLearned). by_entry go_on now l facts question entry) (sym is)

-- it asks what no live entry answers
pub once_asks : (now : ℕ) (cache left : Recent) (old new : SessionState) (question : Question) → Ask question ≡ turn_of old → new ≡ after_turn old
    → None ≡ live_entry question now cache.entries → left ≡ recent (after_look_up question cache.entries) cache.limit
    → ResolvesOnce now (Ok (Some (Ask question))) cache left old new
once_asks now cache left old new question turn is none after = (
  λ go_on. looked_up go_on now cache.entries left.entries old.facts (turn_of old) question None turn none (ap (λ (c : Recent). c.entries) after)
      ∙ ap (λ (facts : PlainFacts). resolution left.entries facts (Ask question)) (sym (ap (λ (s : SessionState). s.facts) is)),
  later_turn old new is,
  ap (λ (s : SessionState). s.asked) is ∙ ap question_in (sym turn),
)

-- a live entry answers it
pub once_answered : (now : ℕ) (cache left : Recent) (old mid new : SessionState) (question : Question) (entry : PlainLearned) (fact : Fact) → Ask question ≡ turn_of old → mid ≡ after_turn old
    → Some entry ≡ live_entry question now cache.entries → left ≡ recent (after_look_up question cache.entries) cache.limit
    → fact ≡ fact_at now entry → new ≡ after_fact mid fact
    → ResolvesOnce now (Ok None) cache left old new
once_answered now cache left old mid new question entry fact turn is one after says given =
    let asked : mid.asked ≡ Some question = ap (λ (s : SessionState). s.asked) is ∙ ap question_in (sym turn) in
    let facts : new.facts ≡ old.facts ++ (question, fact_at now entry) ∷ [] =
    ap (λ (s : SessionState). s.facts) given
    ∙ (λ i. (after_fact (record { policy = mid.policy; incoming = mid.incoming; facts = (is i).facts; asked = asked i }) (says i)).facts) in (
      λ go_on. looked_up go_on now cache.entries left.entries old.facts (turn_of old) question (Some entry) turn one (ap (λ (c : Recent). c.entries) after)
          ∙ ap (go_on left.entries) (sym facts),
      record {
        policy = ap (λ (s : SessionState). s.policy) given ∙ ap (λ (s : SessionState). s.policy) is;
        incoming = ap (λ (s : SessionState). s.incoming) given ∙ ap (λ (s : SessionState). s.incoming) is;
        more = (question, fact_at now entry) ∷ [];
        facts = facts;
      },
    )

-- ---- the turns

step : (left now : ℕ) (policy : PlainPolicy) (incoming : Incoming) (cached : List PlainLearned) (facts : PlainFacts)
    → resolve_within (suc left) now policy incoming cached facts ≡ by_turn (resolve_within left now policy incoming) now cached facts (turn_by policy incoming facts)
unfolding resolve_within
step left now policy incoming cached facts = refl

last : (now : ℕ) (policy : PlainPolicy) (incoming : Incoming) (cached : List PlainLearned) (facts : PlainFacts)
    → resolve_within 0 now policy incoming cached facts ≡ resolution cached facts (turn_by policy incoming facts)
unfolding resolve_within
last now policy incoming cached facts = refl

-- a turn that isn't the last
at_turn : (count now : ℕ) (policy : PlainPolicy) (incoming : Incoming) (cached : List PlainLearned) (facts : PlainFacts) → count < FACT_LIMIT
    → resolve_within (FACT_LIMIT - count) now policy incoming cached facts ≡ by_turn (resolve_within (FACT_LIMIT - (count + 1)) now policy incoming) now cached facts (turn_by policy incoming facts)
at_turn count now policy incoming cached facts lt =
    let next : FACT_LIMIT - count ≡ suc (FACT_LIMIT - (count + 1)) = omega (arith, lt) in
    ap (λ (n : ℕ). resolve_within n now policy incoming cached facts) next
    ∙ step (FACT_LIMIT - (count + 1)) now policy incoming cached facts

-- the last turn
at_last : (count now : ℕ) (policy : PlainPolicy) (incoming : Incoming) (cached : List PlainLearned) (facts : PlainFacts) → FACT_LIMIT ≤ count
    → resolve_within (FACT_LIMIT - count) now policy incoming cached facts ≡ resolution cached facts (turn_by policy incoming facts)
at_last count now policy incoming cached facts le =
    let none : FACT_LIMIT - count ≡ 0 = omega (arith, le) in
    ap (λ (n : ℕ). resolve_within n now policy incoming cached facts) none ∙ last now policy incoming cached facts

-- so many turns of a session were answered by the cache
pub record HasTurned (now count : ℕ) (first cache : Recent) (old new : SessionState) : Type 0 where
  pub goes_on : resolve_within (FACT_LIMIT - count) now old.policy old.incoming cache.entries new.facts ≡ resolve now old.policy old.incoming first.entries old.facts
  pub limit : cache.limit ≡ first.limit
  pub later : IsLater old new

pub begins : (now : ℕ) (cache : Recent) (s : SessionState) → HasTurned now 0 cache cache s s
begins now cache s = record {
  goes_on = ap (λ (n : ℕ). resolve_within n now s.policy s.incoming cache.entries s.facts) (omega arith);
  limit = refl;
  later = later_same s;
}

turn_seen : (old mid : SessionState) → IsLater old mid → turn_of mid ≡ turn_by old.policy old.incoming mid.facts
turn_seen old mid later = λ i. turn_by (later.policy i) (later.incoming i) mid.facts

pub turned : (now count : ℕ) (first cache left : Recent) (old mid new : SessionState) → count < FACT_LIMIT → HasTurned now count first cache old mid
    → ResolvesOnce now (Ok None) cache left mid new → left.limit ≡ cache.limit → HasTurned now (count + 1) first left old new
turned now count first cache left old mid new lt h once limit =
    let go_on = resolve_within (FACT_LIMIT - (count + 1)) now old.policy old.incoming in
    record {
      goes_on =
          sym (once.0 go_on)
          ∙ ap (by_turn go_on now cache.entries mid.facts) (turn_seen old mid h.later)
          ∙ sym (at_turn count now old.policy old.incoming cache.entries mid.facts lt)
          ∙ h.goes_on;
      limit = limit ∙ h.limit;
      later = later_later old mid new h.later once.1;
    }

-- a turn that the cache doesn't answer
pub turn_done : (now count : ℕ) (first cache left : Recent) (old mid new : SessionState) (turn : Turn) → count < FACT_LIMIT → HasTurned now count first cache old mid
    → ResolvesOnce now (Ok (Some turn)) cache left mid new → Resolves now (Ok turn) first left old new
turn_done now count first cache left old mid new turn lt h once =
    let go_on = resolve_within (FACT_LIMIT - (count + 1)) now old.policy old.incoming in (
      sym h.goes_on
          ∙ at_turn count now old.policy old.incoming cache.entries mid.facts lt
          ∙ ap (by_turn go_on now cache.entries mid.facts) (sym (turn_seen old mid h.later))
          ∙ once.0 go_on,
      later_later old mid new h.later once.1,
      once.2,
    )

-- the turn behind all that the cache may answer
pub turn_last : (now count : ℕ) (first cache : Recent) (old mid new : SessionState) (turn : Turn) → FACT_LIMIT ≤ count → HasTurned now count first cache old mid
    → turn ≡ turn_of mid → new ≡ after_turn mid → Resolves now (Ok turn) first cache old new
turn_last now count first cache old mid new turn le h turns is = (
  sym h.goes_on
      ∙ at_last count now old.policy old.incoming cache.entries mid.facts le
      ∙ (λ i. resolution cache.entries (ap (λ (s : SessionState). s.facts) (sym is) i) ((sym (turn_seen old mid h.later) ∙ sym turns) i)),
  later_later old mid new h.later (later_turn mid new is),
  ap (λ (s : SessionState). s.asked) is ∙ ap question_in (sym turns),
)

pub turn_behind : (now count : ℕ) (first cache : Recent) (old mid new : SessionState) (result : Result Turn AllocError) → FACT_LIMIT ≤ count → HasTurned now count first cache old mid
    → IfOk result (λ turn. turn ≡ turn_of mid) → OnOk result (new ≡ after_turn mid) → OnErr result (new ≡ mid) → Resolves now result first cache old new
turn_behind now count first cache old mid new (Ok turn) le h turns ok err = turn_last now count first cache old mid new turn le h turns ok
turn_behind now count first cache old mid new (Err e) le h turns ok err = subst (IsLater old) (sym err) h.later

pub none_if : (found : Option Turn) → ((turn : Turn) → found ≡ Some turn → ⊥) → found ≡ None
none_if None other = refl
none_if (Some turn) other = absurd (other turn refl)
