-- A live entry of the cache stays where a query finds it.
use Rattle.std.proofs.Common.{◌≡◌, ◌≤◌, ◌<◌, ◌+◌, ◌-◌, ◌==◌, ℕ, zero, suc, Bool, true, false, cond, List, [], ◌∷◌, Option, Some, None, refl, sym, ap, ◌∙◌, subst, inl, inr, length, take, arith, true≢false}
use Rattle.std.specs.List.{AllByRecursion, find}
use Rattle.std.specs.Option.{option_map_or}
use Rattle.std.specs.Str.{bytes_eq}
use Rattle.std.proofs.lemmas.Bool.{cond_both}
use Rattle.std.proofs.lemmas.List.{take-take}
use Rattle.std.proofs.lemmas.Slice.Eq.{bytes_eq-Decides}
use Rattle.edge_io.specs.Chain.{Chain, Stage}
use Rattle.dns_message.specs.declared.question.Question.{Question}
use Rattle.dns_message.specs.declared.request.Incoming.{Incoming}
use Rattle.upstream_link.specs.declared.facts.TheConstants.{FACT_LIMIT}
use Rattle.upstream_link.specs.Facts.{PlainFacts}
use Rattle.upstream_link.specs.Vouched.{PlainLearned, life, live}
use Rattle.answer_cache.specs.Key.{key_of}
use Rattle.answer_cache.specs.Keeps.{IsFound, kept, looked_up}
use Rattle.answer_cache.specs.Recent.{Recent, recent, Serves, live_entry, if_live, is_about, after_keep, put_first, after_look_up, without}
use Rattle.policy_snapshot.specs.Policy.{PlainPolicy}
use Rattle.query_session.specs.Session.{AsksAnew, question_in, turn_by}
use Rattle.query_session.proofs.FreshQuestions.{asks_anew}
use Rattle.reply_build.specs.declared.turn.Turn.{Turn}
use Rattle.reply_build.specs.declared.turn.Turn.TheVariants as turn
use Rattle.rpz_workers.specs.declared.obtained.Obtained.{Obtained}
use Rattle.rpz_workers.specs.declared.obtained.Obtained.TheVariants.{Learned, Failed}
use Rattle.rpz_workers.specs.Laws.{HitsFor, IsHit}
use Rattle.rpz_workers.specs.Obtaining.{Inquiry, MayKeep, Obtains, ObtainsFor}
use Rattle.rpz_workers.proofs.Stages.{one_fact_more}

-- ---- the first that passes a test

-- it stays the first where more are looked at
found_within : {X : Type 0} (test : X → Bool) (m n : ℕ) (xs : List X) (y : X) → m ≤ n → find test (take m xs) ≡ Some y → find test (take n xs) ≡ Some y
found_within test zero n xs y le e = absurd (cc)
found_within test (suc m) n [] y le e = absurd (cc)
found_within test (suc m) zero (x ∷ xs) y le e = absurd (omega arith)
found_within test (suc m) (suc n) (x ∷ xs) y le e = (elim (test x) as (λ b. cond b (Some x) (find test (take m xs)) ≡ Some y → cond b (Some x) (find test (take n xs)) ≡ Some y) [
  | true ↦ λ h. h
  | false ↦ λ h. found_within test m n xs y (omega arith) h
]) e

found_of_all : {X : Type 0} (test : X → Bool) (m : ℕ) (xs : List X) (y : X) → find test (take m xs) ≡ Some y → find test xs ≡ Some y
found_of_all test zero xs y e = absurd (cc)
found_of_all test (suc m) [] y e = absurd (cc)
found_of_all test (suc m) (x ∷ xs) y e = (elim (test x) as (λ b. cond b (Some x) (find test (take m xs)) ≡ Some y → cond b (Some x) (find test xs) ≡ Some y) [
  | true ↦ λ h. h
  | false ↦ λ h. found_of_all test m xs y h
]) e

passes : {X : Type 0} (test : X → Bool) (xs : List X) (y : X) → find test xs ≡ Some y → test y ≡ true
passes test [] y e = absurd (cc)
passes test (x ∷ xs) y e = (elim (test x) as (λ b. test x ≡ b → cond b (Some x) (find test xs) ≡ Some y → test y ≡ true) [
  | true ↦ λ t h. let same : x ≡ y = cc in subst (λ z. test z ≡ true) same t
  | false ↦ λ t h. passes test xs y h
]) refl e

-- one in front that doesn't pass moves it by one
behind_one : {X : Type 0} (test : X → Bool) (x : X) (xs : List X) (o : Option X) → test x ≡ false → find test xs ≡ o → find test (x ∷ xs) ≡ o
behind_one test x xs o t e = ap (λ b. cond b (Some x) (find test xs)) t ∙ e

in_front : {X : Type 0} (test : X → Bool) (x : X) (xs : List X) → test x ≡ true → find test (x ∷ xs) ≡ Some x
in_front test x xs t = ap (λ b. cond b (Some x) (find test xs)) t

-- ---- a cache that tells its entries

-- it may have so many, and among the first so many of them this is the first about the question
pub record HasFirst (question : Question) (entry : PlainLearned) (limit m : ℕ) (cached : Option Recent) : Type 0 where
  pub entries : List PlainLearned
  pub tells : cached ≡ Some (recent entries limit)
  pub first : find (is_about question) (take m entries) ≡ Some entry

-- what a look-up finds there
found_in : (question : Question) (now limit : ℕ) (found : Option PlainLearned) (cached : Option Recent) (entries : List PlainLearned) → cached ≡ Some (recent entries limit) → IsFound question now found cached
    → live_entry question now entries ≡ found
found_in question now limit found cached entries tells is =
    let same : found ≡ live_entry question now entries = subst (λ (c : Option Recent). IsFound question now found c) tells is in sym same

-- and what it leaves
looked_up_in : (question : Question) (limit : ℕ) (cached after : Option Recent) (entries : List PlainLearned) → cached ≡ Some (recent entries limit) → after ≡ looked_up question cached
    → after ≡ Some (recent (after_look_up question entries) limit)
looked_up_in question limit cached after entries tells same = same ∙ ap (looked_up question) tells

-- what a keep leaves
kept_in : (entry : PlainLearned) (limit : ℕ) (cached after : Option Recent) (entries : List PlainLearned) → cached ≡ Some (recent entries limit) → after ≡ kept entry cached
    → after ≡ Some (recent (after_keep limit entry entries) limit)
kept_in entry limit cached after entries tells same = same ∙ ap (kept entry) tells

-- ---- questions that are not alike

module _ (p q : Question) (differ : bytes_eq (key_of p) (key_of q) ≡ false) where
  -- an entry about the one isn't about the other
  apart : (x : PlainLearned) → is_about p x ≡ true → is_about q x ≡ false
  apart x about = (elim (is_about q x) as (λ b. is_about q x ≡ b → b ≡ false) [
    | true ↦ λ t.
        let one = (bytes_eq-Decides (key_of p) (key_of x.question)).0 about in
        let other = (bytes_eq-Decides (key_of q) (key_of x.question)).0 t in
        absurd (true≢false (sym ((bytes_eq-Decides (key_of p) (key_of q)).1 (one ∙ sym other)) ∙ differ))
    | false ↦ λ t. refl
  ]) refl

  stays_without : (m : ℕ) (xs : List PlainLearned) (y : PlainLearned) → find (is_about q) (take m xs) ≡ Some y → find (is_about q) (take m (without p xs)) ≡ Some y
  stays_without zero xs y e = absurd (cc)
  stays_without (suc m) [] y e = absurd (cc)
  stays_without (suc m) (x ∷ xs) y e = (elim (is_about p x) as (λ b. is_about p x ≡ b → find (is_about q) (take (suc m) (cond b xs (x ∷ without p xs))) ≡ Some y) [
    | true ↦ λ t. found_within (is_about q) m (suc m) xs y (omega arith) (ap (λ b. cond b (Some x) (find (is_about q) (take m xs))) (sym (apart x t)) ∙ e)
    | false ↦ λ t. (elim (is_about q x) as (λ b. cond b (Some x) (find (is_about q) (take m xs)) ≡ Some y → cond b (Some x) (find (is_about q) (take m (without p xs))) ≡ Some y) [
      | true ↦ λ h. h
      | false ↦ λ h. stays_without m xs y h
    ]) e
  ]) refl

  touched_by : (m : ℕ) (xs : List PlainLearned) (y : PlainLearned) (o : Option PlainLearned) → find (is_about p) xs ≡ o → find (is_about q) (take m xs) ≡ Some y
      → find (is_about q) (take (suc m) (option_map_or (λ entry. entry ∷ without p xs) o xs)) ≡ Some y
  touched_by m xs y None is e = found_within (is_about q) m (suc m) xs y (omega arith) e
  touched_by m xs y (Some x) is e = behind_one (is_about q) x (take m (without p xs)) (Some y) (apart x (passes (is_about p) xs x is)) (stays_without m xs y e)

  stays_touched : (m : ℕ) (xs : List PlainLearned) (y : PlainLearned) → find (is_about q) (take m xs) ≡ Some y → find (is_about q) (take (suc m) (after_look_up p xs)) ≡ Some y
  stays_touched m xs y e = touched_by m xs y (find (is_about p) xs) refl e

  without_by : (m : ℕ) (xs : List PlainLearned) (y : PlainLearned) (o : Option PlainLearned) → find (is_about p) xs ≡ o → find (is_about q) (take m xs) ≡ Some y
      → find (is_about q) (take m (without p (option_map_or (λ entry. entry ∷ without p xs) o xs))) ≡ Some y
  without_by m xs y None is e = stays_without m xs y e
  without_by m xs y (Some x) is e =
      ap (λ b. find (is_about q) (take m (cond b (without p xs) (x ∷ without p (without p xs))))) (passes (is_about p) xs x is) ∙ stays_without m xs y e

  stays_put : (limit m : ℕ) (entry : PlainLearned) (xs : List PlainLearned) (y : PlainLearned) → suc m ≤ limit → is_about p entry ≡ true → find (is_about q) (take m (without p xs)) ≡ Some y
      → find (is_about q) (take (suc m) (take limit (entry ∷ without p xs))) ≡ Some y
  stays_put limit m entry xs y room about e =
      ap (find (is_about q)) (take-take (suc m) limit (entry ∷ without p xs) room)
      ∙ behind_one (is_about q) entry (take m (without p xs)) (Some y) (apart entry about) e

  stays_kept : (limit m : ℕ) (entry : PlainLearned) (xs : List PlainLearned) (y : PlainLearned) → suc m ≤ limit → entry.question ≡ p → find (is_about q) (take m xs) ≡ Some y
      → find (is_about q) (take (suc m) (after_keep limit entry (after_look_up p xs))) ≡ Some y
  stays_kept limit m entry xs y room is e =
      let about : is_about p entry ≡ true = (bytes_eq-Decides (key_of p) (key_of entry.question)).1 (ap key_of (sym is)) in
      cond_both (life entry == 0) (after_look_up p xs) (put_first limit entry (after_look_up p xs)) (λ l. find (is_about q) (take (suc m) l) ≡ Some y)
      (λ _. stays_touched m xs y e)
      (λ _. ap (λ (r : Question). find (is_about q) (take (suc m) (take limit (entry ∷ without r (after_look_up p xs))))) is
      ∙ stays_put limit m entry (after_look_up p xs) y room about (without_by m xs y (find (is_about p) xs) refl e))

  stays_may_keep : (limit m : ℕ) (entry : PlainLearned) (xs : List PlainLearned) (cached after : Option Recent) (y : PlainLearned) → suc m ≤ limit → entry.question ≡ p → cached ≡ Some (recent (after_look_up p xs) limit) → MayKeep entry cached after → find (is_about q) (take m xs) ≡ Some y
      → HasFirst q y limit (suc m) after
  stays_may_keep limit m entry xs cached after y room is tells (inl same) e =
      record {
        entries = after_keep limit entry (after_look_up p xs);
        tells = kept_in entry limit cached after (after_look_up p xs) tells same;
        first = stays_kept limit m entry xs y room is e;
      }
  stays_may_keep limit m entry xs cached after y room is tells (inr same) e =
      record { entries = after_look_up p xs; tells = same ∙ tells; first = stays_touched m xs y e }

-- ---- a live entry among the first

live_if : (now : ℕ) (o : Option PlainLearned) (entry : PlainLearned) → if_live now o ≡ Some entry → (o ≡ Some entry) × (live now entry ≡ true)
live_if now None entry e = absurd (cc)
live_if now (Some x) entry e = (elim (live now x) as (λ b. live now x ≡ b → cond b (Some x) None ≡ Some entry → (Some x ≡ Some entry) × (live now entry ≡ true)) [
  | true ↦ λ t h. let same : x ≡ entry = cc in (h, subst (λ z. live now z ≡ true) same t)
  | false ↦ λ t h. absurd (cc)
]) refl e

if_lives : (now : ℕ) (o : Option PlainLearned) (entry : PlainLearned) → o ≡ Some entry → live now entry ≡ true → if_live now o ≡ Some entry
if_lives now o entry e t = ap (if_live now) e ∙ ap (λ b. cond b (Some entry) None) t

some_room : (question : Question) (entry : PlainLearned) (m : ℕ) (entries : List PlainLearned) → find (is_about question) (take m entries) ≡ Some entry → 1 ≤ m
some_room question entry zero entries e = absurd (cc)
some_room question entry (suc m) entries e = omega arith

-- a look-up for a question that is alike finds it
finds : (p q : Question) (y : PlainLearned) (now m : ℕ) (entries : List PlainLearned) → key_of p ≡ key_of q → live now y ≡ true → find (is_about q) (take m entries) ≡ Some y → live_entry p now entries ≡ Some y
finds p q y now m entries alike is_live first =
    ap (λ (key : List ℕ). if_live now (find (λ e. bytes_eq key (key_of e.question)) entries)) alike
    ∙ if_lives now (find (is_about q) entries) y (found_of_all (is_about q) m entries y first) is_live

touched_first : (p : Question) (entries : List PlainLearned) (x : PlainLearned) → find (is_about p) entries ≡ Some x → after_look_up p entries ≡ x ∷ without p entries
touched_first p entries x e = ap (λ o. option_map_or (λ entry. entry ∷ without p entries) o entries) e

-- and moves it to the front
first_then : (p q : Question) (y : PlainLearned) (now m : ℕ) (entries : List PlainLearned) → key_of p ≡ key_of q → live now y ≡ true → find (is_about q) (take m entries) ≡ Some y
    → find (is_about q) (take (suc m) (after_look_up p entries)) ≡ Some y
first_then p q y now m entries alike is_live first =
    let here = live_if now (find (is_about p) entries) y (finds p q y now m entries alike is_live first) in
    let about : is_about q y ≡ true = passes (is_about q) (take m entries) y first in
    ap (λ l. find (is_about q) (take (suc m) l)) (touched_first p entries y here.0) ∙ in_front (is_about q) y (take m (without p entries)) about

-- ---- one stage

-- a look-up for a question that is alike finds something
must_find : (now : ℕ) (p q : Question) (y : PlainLearned) (limit m : ℕ) (cached : Option Recent) → key_of p ≡ key_of q → live now y ≡ true → HasFirst q y limit m cached → IsFound p now None cached → ⊥
must_find now p q y limit m cached alike is_live has none =
    let e = sym (found_in p now limit None cached has.entries has.tells none) ∙ finds p q y now m has.entries alike is_live has.first in absurd (cc)

-- a look-up for another question moves it by one at most
other_looked_up : (p q : Question) (y : PlainLearned) (limit m : ℕ) (cached after : Option Recent) → bytes_eq (key_of p) (key_of q) ≡ false → HasFirst q y limit m cached → after ≡ looked_up p cached → HasFirst q y limit (suc m) after
other_looked_up p q y limit m cached after differ has same =
    record {
      entries = after_look_up p has.entries;
      tells = looked_up_in p limit cached after has.entries has.tells same;
      first = stays_touched p q differ m has.entries y has.first;
    }

hit_at : {L : Type 0} (now : ℕ) (p : Question) (entry y : PlainLearned) (before : Inquiry) (cache : Recent) → before.cached ≡ Some cache → live_entry p now cache.entries ≡ Some entry → Serves p now entry → entry ≡ y
    → IsHit {L = L} now p y (record { turn = Learned entry; before = before })
hit_at {L} now p entry y before cache tells found serves same =
    record {
      turn_is = ap (λ (z : PlainLearned). let t : Obtained L = Learned z in t) same;
      is_found = record { cache = cache; tells = tells; is_live = found ∙ ap (λ (z : PlainLearned). Some z) same };
      serves = subst (Serves p now) same serves;
    }

module _ {L : Type 0} (gave : List ℕ → List ℕ → ℕ → Type 0) (passes_on : Bool) (now : ℕ) (p q : Question) (y : PlainLearned) (is_live : live now y ≡ true) (limit m : ℕ) (before after : Inquiry) (room : suc m ≤ limit) (has : HasFirst q y limit m before.cached) where
  one_alike : (one : Obtained L) → key_of p ≡ key_of q → ObtainsFor gave passes_on now p before one after → HasFirst q y limit (suc m) after.cached × IsHit now p y (record { turn = one; before = before })
  one_alike (Learned entry) alike (inl hit) =
      let found = found_in p now limit (Some entry) before.cached has.entries has.tells hit.is_found in
      let found_twice = sym found ∙ finds p q y now m has.entries alike is_live has.first in
      let same : entry ≡ y = cc in (
        record {
          entries = after_look_up p has.entries;
          tells = looked_up_in p limit before.cached after.cached has.entries has.tells hit.cached;
          first = first_then p q y now m has.entries alike is_live has.first;
        },
        hit_at now p entry y before (recent has.entries limit) has.tells found hit.serves same,
      )
  one_alike (Learned entry) alike (inr asked) = absurd (must_find now p q y limit m before.cached alike is_live has asked.not_found)
  one_alike (Failed asked) alike (same, failed) = absurd (must_find now p q y limit m before.cached alike is_live has failed.not_found)

  one_other : (one : Obtained L) → bytes_eq (key_of p) (key_of q) ≡ false → ObtainsFor gave passes_on now p before one after → HasFirst q y limit (suc m) after.cached
  one_other (Learned entry) differ (inl hit) = other_looked_up p q y limit m before.cached after.cached differ has hit.cached
  one_other (Learned entry) differ (inr asked) =
      stays_may_keep p q differ limit m entry has.entries (looked_up p before.cached) after.cached y room asked.asks.0 (ap (looked_up p) has.tells) asked.cached has.first
  one_other (Failed asked) differ (same, failed) = other_looked_up p q y limit m before.cached after.cached differ has failed.cached

  one_stage : (one : Obtained L) → ObtainsFor gave passes_on now p before one after → HasFirst q y limit (suc m) after.cached × (key_of p ≡ key_of q → IsHit now p y (record { turn = one; before = before }))
  one_stage one by = (elim (bytes_eq (key_of p) (key_of q)) as (λ b. bytes_eq (key_of p) (key_of q) ≡ b → HasFirst q y limit (suc m) after.cached × (key_of p ≡ key_of q → IsHit now p y (record { turn = one; before = before }))) [
    | true ↦ λ t. let both = one_alike one ((bytes_eq-Decides (key_of p) (key_of q)).0 t) by in (both.0, λ _. both.1)
    | false ↦ λ t. (one_other one t by, λ alike. absurd (true≢false (sym ((bytes_eq-Decides (key_of p) (key_of q)).1 alike) ∙ t)))
  ]) refl

-- ---- the stages of a query

asks_within : (policy : PlainPolicy) (incoming : Incoming) (facts : PlainFacts) (question : Question) → turn_by policy incoming facts ≡ turn.Ask question → length facts < FACT_LIMIT
asks_within policy incoming facts question e = (subst (λ (t : Turn). AsksAnew facts (question_in t)) e (asks_anew policy incoming facts)).1

same_asked : (this : Turn) (p other : Question) → this ≡ turn.Ask p → this ≡ turn.Ask other → p ≡ other
same_asked this p other e f = cc

-- after these stages the entry is still found, each stage has brought one fact, and each that was alike hit the cache
pub record KeepsEntry {L : Type 0} (policy : PlainPolicy) (incoming : Incoming) (now limit m : ℕ) (question : Question) (entry : PlainLearned) (stages : List (Stage Inquiry (Obtained L))) (last : Inquiry) : Type 0 where
  pub has : HasFirst question entry limit (m + length stages) last.cached
  pub counted : length last.facts ≡ length stages
  pub hits : AllByRecursion (HitsFor policy incoming now question entry) stages

module _ {L : Type 0} (gave : List ℕ → List ℕ → ℕ → Type 0) (passes_on : Bool) (now : ℕ) (policy : PlainPolicy) (incoming : Incoming) (question : Question) (entry : PlainLearned) (is_live : live now entry ≡ true) (limit m : ℕ) (room : m + FACT_LIMIT ≤ limit) (first : Inquiry) (none : first.facts ≡ []) (has : HasFirst question entry limit m first.cached) where
  keeps_entry_more : (stage : Stage Inquiry (Obtained L)) (stages : List (Stage Inquiry (Obtained L))) (last : Inquiry) → Obtains gave passes_on now policy incoming stage.before stage.turn last
      → KeepsEntry policy incoming now limit m question entry stages stage.before → KeepsEntry policy incoming now limit m question entry (stage ∷ stages) last
  keeps_entry_more stage stages last obtains was =
      let within : length stage.before.facts < FACT_LIMIT = asks_within policy incoming stage.before.facts obtains.question obtains.asks in
      let place : suc (m + length stages) ≤ limit = omega (arith, was.counted) in
      let one = one_stage gave passes_on now obtains.question question entry is_live limit (m + length stages) stage.before last place was.has stage.turn obtains.by in
      let more : length last.facts ≡ length stage.before.facts + 1 = one_fact_more gave passes_on now obtains.question stage.before stage.turn last obtains.by in
      let next : suc (m + length stages) ≡ m + suc (length stages) = omega arith in
      record {
        has = subst (λ (k : ℕ). HasFirst question entry limit k last.cached) next one.0;
        counted = omega (arith, more, was.counted);
        hits = (
          λ asked e alike.
              let same = same_asked (turn_by policy incoming stage.before.facts) obtains.question asked obtains.asks e in
              subst (λ (a : Question). IsHit now a entry stage) same (one.1 (ap key_of same ∙ alike)),
          was.hits,
        );
      }

  keeps_entry : (stages : List (Stage Inquiry (Obtained L))) (last : Inquiry) → Chain (Obtains gave passes_on now policy incoming) first stages last → KeepsEntry policy incoming now limit m question entry stages last
  keeps_entry [] last same =
      let start : m ≡ m + 0 = omega arith in
      record {
        has = subst (λ (k : ℕ). HasFirst question entry limit k last.cached) start (subst (λ (x : Inquiry). HasFirst question entry limit m x.cached) (sym same) has);
        counted = ap (λ (x : Inquiry). length x.facts) same ∙ ap length none;
        hits = tt;
      }
  keeps_entry (stage ∷ stages) last (obtains, chain) = keeps_entry_more stage stages last obtains (keeps_entry stages stage.before chain)

pub live_entry_answers : {L : Type 0} (gave : List ℕ → List ℕ → ℕ → Type 0) (passes_on : Bool) (now : ℕ) (policy : PlainPolicy) (incoming : Incoming) (first last : Inquiry) (stages : List (Stage Inquiry (Obtained L))) (question : Question) (entry : PlainLearned) (cache : Recent)
    → first.facts ≡ [] → first.cached ≡ Some cache → Chain (Obtains gave passes_on now policy incoming) first stages last
    → live_entry question now (take (cache.limit - FACT_LIMIT) cache.entries) ≡ Some entry
    → AllByRecursion (HitsFor policy incoming now question entry) stages
live_entry_answers gave passes_on now policy incoming first last stages question entry cache none tells chain e =
    let is = live_if now (find (is_about question) (take (cache.limit - FACT_LIMIT) cache.entries)) entry e in
    let some = some_room question entry (cache.limit - FACT_LIMIT) cache.entries is.0 in
    let room : (cache.limit - FACT_LIMIT) + FACT_LIMIT ≤ cache.limit = omega arith in
    let has : HasFirst question entry cache.limit (cache.limit - FACT_LIMIT) first.cached = record { entries = cache.entries; tells = tells; first = is.0 } in
    (keeps_entry gave passes_on now policy incoming question entry is.1 cache.limit (cache.limit - FACT_LIMIT) room first none has stages last chain).hits
