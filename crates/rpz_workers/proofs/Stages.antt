-- Answers obtained one after another.
use Rattle.std.proofs.Common.{◌≡◌, ◌+◌, ℕ, Bool, List, [], ◌∷◌, ◌++◌, Option, Some, None, refl, sym, ap, ◌∙◌, subst, inl, inr, length, length-append}
use Rattle.dns_message.specs.declared.question.Question.{Question}
use Rattle.dns_message.specs.declared.request.Incoming.{Incoming}
use Rattle.upstream_link.specs.declared.fact.Fact.{Fact}
use Rattle.upstream_link.specs.Facts.{PlainFacts}
use Rattle.policy_snapshot.specs.Policy.{PlainPolicy}
use Rattle.query_session.specs.Session.{turn_by}
use Rattle.reply_build.specs.declared.said.Said.{Said}
use Rattle.reply_build.specs.declared.turn.Turn.TheVariants as turn
use Rattle.rpz_workers.specs.declared.obtained.Obtained.{Obtained}
use Rattle.rpz_workers.specs.declared.obtained.Obtained.TheVariants.{Learned, Failed}
use Rattle.rpz_workers.specs.Obtaining.{Inquiry, Obtains, ObtainsFor, with_fact}
use Rattle.rpz_workers.specs.declared.answered.Answered.{Answered}
use Rattle.rpz_workers.specs.declared.answered.Answered.TheVariants as answered
use Rattle.rpz_workers.specs.Turns.{ComesTo, Leads, Says, TakesTurn}

one_longer : (facts after : PlainFacts) (question : Question) (fact : Fact) → after ≡ with_fact facts question fact → length after ≡ length facts + 1
one_longer facts after question fact e = ap length e ∙ length-append facts ((question, fact) ∷ [])

-- each answer is one fact more
pub one_fact_more : {L : Type 0} (gave : List ℕ → List ℕ → ℕ → Type 0) (passes_on : Bool) (now : ℕ) (question : Question) (before : Inquiry) (one : Obtained L) (after : Inquiry)
    → ObtainsFor gave passes_on now question before one after → length after.facts ≡ length before.facts + 1
one_fact_more gave passes_on now question before (Learned entry) after by =
    elim by [ inl hit ↦ one_longer _ _ _ _ hit.facts | inr asked ↦ one_longer _ _ _ _ asked.facts ]
one_fact_more gave passes_on now question before (Failed asked) after by = one_longer _ _ _ _ by.1.facts

-- nothing obtained leads nowhere
pub leads_nowhere : {L : Type 0} (gave : List ℕ → List ℕ → ℕ → Type 0) (passes_on : Bool) (now : ℕ) (policy : PlainPolicy) (incoming : Incoming) (first : Inquiry) (obtained : List (Obtained L)) (last : Inquiry)
    → obtained ≡ [] → last ≡ first → Leads gave passes_on now policy incoming first obtained last
leads_nowhere gave passes_on now policy incoming first obtained last none same = record { stages = []; chain = same; obtained_is = none }

-- what a turn does that ends nothing
turn_asks : {L : Type 0} (gave : List ℕ → List ℕ → ℕ → Type 0) (passes_on : Bool) (now : ℕ) (policy : PlainPolicy) (incoming : Incoming) (middle : Inquiry) (came_to : Option Answered) (obtained more : List (Obtained L)) (last : Inquiry)
    → came_to ≡ None → TakesTurn gave passes_on now policy incoming middle came_to obtained more last
    → TakesTurn gave passes_on now policy incoming middle None obtained more last
turn_asks {L} gave passes_on now policy incoming middle came_to obtained more last none takes =
    let P : Option Answered → Type 0 = λ a. TakesTurn gave passes_on now policy incoming middle a obtained more last in subst P none takes

-- one answer more
pub leads_on : {L : Type 0} (gave : List ℕ → List ℕ → ℕ → Type 0) (passes_on : Bool) (now : ℕ) (policy policy_now : PlainPolicy) (incoming incoming_now : Incoming) (first middle : Inquiry) (came_to : Option Answered) (obtained more : List (Obtained L)) (last : Inquiry)
    → policy_now ≡ policy → incoming_now ≡ incoming → came_to ≡ None
    → Leads gave passes_on now policy incoming first obtained middle
    → TakesTurn gave passes_on now policy_now incoming_now middle came_to obtained more last
    → Leads gave passes_on now policy incoming first more last
leads_on {L} gave passes_on now policy policy_now incoming incoming_now first middle came_to obtained more last same_policy same_incoming none leads turned =
    let takes = turn_asks gave passes_on now policy_now incoming_now middle came_to obtained more last none turned in
    let P : PlainPolicy → Incoming → Type 0 = λ p i. Obtains gave passes_on now p i middle takes.0 last in
    let one = subst (λ (p : PlainPolicy). P p incoming) same_policy (subst (λ (i : Incoming). P policy_now i) same_incoming takes.1.0) in
    record {
      stages = record { turn = takes.0; before = middle } ∷ leads.stages;
      chain = (one, leads.chain);
      obtained_is = takes.1.1 ∙ ap (λ (list : List (Obtained L)). list ++ takes.0 ∷ []) leads.obtained_is;
    }

pub turn_adds_one : {L : Type 0} (gave : List ℕ → List ℕ → ℕ → Type 0) (passes_on : Bool) (now : ℕ) (policy : PlainPolicy) (incoming : Incoming) (middle : Inquiry) (came_to : Option Answered) (obtained more : List (Obtained L)) (last : Inquiry)
    → came_to ≡ None → TakesTurn gave passes_on now policy incoming middle came_to obtained more last → length last.facts ≡ length middle.facts + 1
turn_adds_one gave passes_on now policy incoming middle came_to obtained more last none turned =
    let takes = turn_asks gave passes_on now policy incoming middle came_to obtained more last none turned in
    one_fact_more gave passes_on now takes.1.0.question middle takes.0 last takes.1.0.by

-- where nothing more is asked, something is said
pub says_last : {L : Type 0} (gave : List ℕ → List ℕ → ℕ → Type 0) (passes_on : Bool) (now : ℕ) (policy policy_now : PlainPolicy) (incoming incoming_now : Incoming) (first middle : Inquiry) (obtained : List (Obtained L)) (said : Said)
    → policy_now ≡ policy → incoming_now ≡ incoming
    → Leads gave passes_on now policy incoming first obtained middle
    → turn_by policy_now incoming_now middle.facts ≡ turn.Said said
    → Says gave passes_on now policy incoming first said obtained middle.cached middle.ids middle.link_faults
says_last gave passes_on now policy policy_now incoming incoming_now first middle obtained said same_policy same_incoming leads says =
    record {
      facts = middle.facts;
      leads = leads;
      says = sym (ap (λ (p : PlainPolicy). turn_by p incoming_now middle.facts) same_policy ∙ ap (λ (i : Incoming). turn_by policy i middle.facts) same_incoming) ∙ says;
    }

leads_to : {L : Type 0} (gave : List ℕ → List ℕ → ℕ → Type 0) (passes_on : Bool) (now : ℕ) (policy : PlainPolicy) (incoming : Incoming) (first middle : Inquiry) (obtained more : List (Obtained L)) (last : Inquiry)
    → more ≡ obtained → last ≡ middle → Leads gave passes_on now policy incoming first obtained middle → Leads gave passes_on now policy incoming first more last
leads_to {L} gave passes_on now policy incoming first middle obtained more last same_list same leads =
    let P : List (Obtained L) → Inquiry → Type 0 = λ list x. Leads gave passes_on now policy incoming first list x in
    subst (λ (list : List (Obtained L)). P list last) (sym same_list) (subst (λ (x : Inquiry). P obtained x) (sym same) leads)

-- what the query comes to in a turn that ends it
ends_in : {L : Type 0} (gave : List ℕ → List ℕ → ℕ → Type 0) (passes_on : Bool) (now : ℕ) (policy : PlainPolicy) (incoming : Incoming) (first middle : Inquiry) (a : Answered) (obtained more : List (Obtained L)) (last : Inquiry)
    → Leads gave passes_on now policy incoming first obtained middle
    → TakesTurn gave passes_on now policy incoming middle (Some a) obtained more last
    → ComesTo gave passes_on now policy incoming first a more last.cached last.ids last.link_faults
ends_in gave passes_on now policy incoming first middle (answered.Said said) obtained more last leads takes =
    record {
      facts = last.facts;
      leads = leads_to gave passes_on now policy incoming first middle obtained more last takes.1 takes.2 leads;
      says = ap (λ (x : Inquiry). turn_by policy incoming x.facts) takes.2 ∙ takes.0;
    }
ends_in gave passes_on now policy incoming first middle (answered.Needs question) obtained more last leads takes =
    record {
      last = middle;
      leads = leads_to gave passes_on now policy incoming first middle obtained more middle takes.1 refl leads;
      asks = takes.0;
      in_vain = record {
        asks_nobody = takes.2.asks_nobody;
        not_found = takes.2.not_found;
        facts = refl;
        cached = takes.2.cached;
        ids = takes.2.ids;
        link_faults = takes.2.link_faults;
      };
    }

pub comes_to : {L : Type 0} (gave : List ℕ → List ℕ → ℕ → Type 0) (passes_on : Bool) (now : ℕ) (policy policy_now : PlainPolicy) (incoming incoming_now : Incoming) (first middle : Inquiry) (came_to : Option Answered) (a : Answered) (obtained more : List (Obtained L)) (last : Inquiry)
    → policy_now ≡ policy → incoming_now ≡ incoming → came_to ≡ Some a
    → Leads gave passes_on now policy incoming first obtained middle
    → TakesTurn gave passes_on now policy_now incoming_now middle came_to obtained more last
    → ComesTo gave passes_on now policy incoming first a more last.cached last.ids last.link_faults
comes_to {L} gave passes_on now policy policy_now incoming incoming_now first middle came_to a obtained more last same_policy same_incoming is leads turned =
    let P : PlainPolicy → Incoming → Option Answered → Type 0 = λ p i o. TakesTurn gave passes_on now p i middle o obtained more last in
    ends_in gave passes_on now policy incoming first middle a obtained more last leads
    (subst (λ (p : PlainPolicy). P p incoming (Some a)) same_policy (subst (λ (i : Incoming). P policy_now i (Some a)) same_incoming (subst (λ (o : Option Answered). P policy_now incoming_now o) is turned)))
